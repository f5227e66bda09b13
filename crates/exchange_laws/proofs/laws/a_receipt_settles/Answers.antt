use Rattle.std.proofs.Common.{◌∷◌, [], sym, subst}
use Rattle.std.specs.List.{Contains}
use Rattle.exchange_model.specs.Alone.{end_after}
use Rattle.exchange_model.specs.Apply.{marked}
use Rattle.exchange_model.specs.End.{End, empty_end}
use Rattle.as4_effects.specs.declared.mark.Mark.TheVariants.{Receipted}
use Rattle.exchange_model.specs.World.{Does}
use Rattle.exchange_model.proofs.NumberedLemmas.{none_numbered}
use Rattle.exchange_laws.proofs.ListLemmas.{has_contained, contains_had}
use Rattle.exchange_laws.proofs.AloneLemmas.{stays_numbered, may_split, after_both}
use Rattle.exchange_laws.proofs.RoundLemmas.{back_settles}
use Rattle.exchange_laws.proofs.laws.a_receipt_settles.Goals as goal

pub returns : goal.returns
returns c acts act s signal copy may there pending came receipt names own room =
    let first : End = end_after acts empty_end in
    let split = may_split acts (Does act ∷ []) empty_end may in
    let settled = back_settles act first s signal copy split.1.0 room came names receipt own (stays_numbered acts empty_end none_numbered split.0)
    (has_contained first.sent s there) pending in
    subst (λ (end : End). Contains end.sent (marked Receipted s)) (sym (after_both acts (Does act ∷ []) empty_end))
    (contains_had (end_after (Does act ∷ []) first).sent (marked Receipted s) settled)
