use Rattle.std.proofs.Common.{take}
use Rattle.exchange_model.specs.Submitting.{ArePayloadsOf}
use Rattle.submissions.proofs.payloads.payloads_of.Given as goal

-- the payloads so far
abbrev pub invariant-loop-at : goal.invariant-loop-at
invariant-loop-at l = ArePayloadsOf l.id (take l.at l.loads) l.payloads.items
