use Rattle.as4_values.specs.Stamp.{Fits}
use Rattle.as4_values.proofs.stamp_form.matching.Given as goal

-- the bytes so far fit
abbrev pub invariant-loop-at : goal.invariant-loop-at
invariant-loop-at l = Fits l.form l.text l.at
