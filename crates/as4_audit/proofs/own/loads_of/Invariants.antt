use Rattle.std.proofs.Common.{◌≡◌, take}
use Rattle.as4_audit.specs.Made.{loads_of}
use Rattle.as4_audit.proofs.own.loads_of.Given as goal

-- the loads so far
abbrev pub invariant-loop-payload : goal.invariant-loop-payload
invariant-loop-payload l = l.loads.items ≡ loads_of (take l.payload-index l.payloads)
