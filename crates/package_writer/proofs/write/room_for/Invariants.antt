use Rattle.std.proofs.Common.{◌≡◌, ◌+◌, ◌-◌, ◌^◌, min, take}
use Rattle.std.specs.List.{sum_by}
use Rattle.package_writer.specs.Room.{part_room}
use Rattle.package_writer.proofs.write.room_for.Given as goal

-- there is room for the parts so far
abbrev pub invariant-loop-payload : goal.invariant-loop-payload
invariant-loop-payload l =
    l.room ≡ min (l.initial.room + sum_by part_room (take l.payload-index l.payloads)) (2 ^ 64 - 1)
