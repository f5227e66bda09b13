use Rattle.std.proofs.Common.{◌≡◌, ◌<◌, ◌^◌, take}
use Rattle.as4_effects.specs.Bodies.{number_body}
use Rattle.event_code.proofs.rest.number_of.Given as goal

abbrev pub invariant-loop-byte : goal.invariant-loop-byte
invariant-loop-byte l = (l.number < 256 ^ l.byte-index) × (number_body l.byte-index l.number ≡ take l.byte-index l.bytes)
