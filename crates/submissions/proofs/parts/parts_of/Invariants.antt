use Rattle.submissions.specs.Names.{ArePartsOf}
use Rattle.submissions.proofs.parts.parts_of.Given as goal

-- the part infos so far
abbrev pub invariant-loop-at : goal.invariant-loop-at
invariant-loop-at l = ArePartsOf l.id l.at l.parts.items
