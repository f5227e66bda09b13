-- The records of a fold lead to its end.
use Rattle.std.proofs.Common.{◌≡◌, List, [], ◌∷◌, None, map, refl, arith}
use Rattle.as4_effects.specs.declared.effect.Effect.{Effect}
use Rattle.event_code.specs.Spelled.{AreSpelled}
use Rattle.exchange_model.specs.Apply.{applied, first_unfit}
use Rattle.exchange_model.specs.End.{End}
use Rattle.fold_laws.specs.Reached.{AreReplayed}
use Rattle.msh_recovery.specs.Records.{IsBodyOf, RecordsLead, alone}

pub fold_leads : (effects : List Effect) (start end : End) → AreSpelled effects → AreReplayed effects start end → RecordsLead (map alone effects) start end
fold_leads [] start end spelled here = here
fold_leads (e ∷ effects) start end spelled (fits, rest) =
    let is : IsBodyOf (e ∷ []) (alone e) = record { some = omega arith; counted = omega arith; spelled = (spelled.0, tt); bytes = refl } in
    let fit : first_unfit (e ∷ []) start ≡ None = rw fits refl in
    (applied (e ∷ []) start, (e ∷ [], is, fit, refl), fold_leads effects (applied (e ∷ []) start) end spelled.1 rest)
