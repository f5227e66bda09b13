use Rattle.std.proofs.Common.{◌≡◌, drop}
use Rattle.as4_envelope.specs.Writable.{names_differ}
use Rattle.as4_envelope.proofs.writable.names_differ.Given as goal

-- the result depends only on the remaining attributes
abbrev pub invariant-loop-at : goal.invariant-loop-at
invariant-loop-at l = names_differ l.attributes ≡ names_differ (drop l.at l.attributes)
