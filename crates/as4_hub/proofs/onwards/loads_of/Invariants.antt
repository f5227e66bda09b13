use Rattle.std.proofs.Common.{◌≡◌}
use Rattle.hub_laws.specs.Chain.{loads_of}
use Rattle.as4_hub.proofs.onwards.loads_of.Given as goal

-- the loads so far are those of the payloads so far
abbrev pub invariant-loop-payload : goal.invariant-loop-payload
invariant-loop-payload l = l.loads.items ≡ loads_of l.yielded
