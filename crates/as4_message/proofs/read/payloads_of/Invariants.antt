use Rattle.std.proofs.Common.{◌≡◌, map, take}
use Rattle.as4_message.specs.Attached.{attached_value}
use Rattle.as4_message.specs.Meaning.{payload_value}
use Rattle.as4_message.proofs.read.payloads_of.Given as goal

abbrev pub invariant-loop-part : goal.invariant-loop-part
invariant-loop-part l = map payload_value l.payloads.items ≡ map attached_value (take l.part-index l.parts)
