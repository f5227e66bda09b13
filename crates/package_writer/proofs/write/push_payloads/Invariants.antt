use Rattle.std.proofs.Common.{◌≡◌, ◌++◌, take}
use Rattle.std.specs.List.{flat_map}
use Rattle.message_model.specs.Package.{payload_text}
use Rattle.package_writer.proofs.write.push_payloads.Given as goal

-- the payloads so far are written
abbrev pub invariant-loop-payload : goal.invariant-loop-payload
invariant-loop-payload l =
    l.out.items ≡ l.initial.out.items ++ flat_map (payload_text l.number) (take l.payload-index l.payloads)
