use Rattle.std.proofs.Common.{◌≡◌, ◌++◌, take}
use Rattle.std.specs.List.{flat_map}
use Rattle.package_writer.specs.Numbers.{numbers_in, payload_numbers}
use Rattle.package_writer.proofs.boundary.taken.Given as goal

abbrev pub invariant-loop-payload : goal.invariant-loop-payload
invariant-loop-payload l = l.numbers.items ≡ numbers_in l.root ++ flat_map payload_numbers (take l.payload-index l.payloads)
