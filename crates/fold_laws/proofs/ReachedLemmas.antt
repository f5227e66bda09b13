-- Turn after turn.
use Rattle.std.proofs.Common.{◌≡◌, ℕ, List, [], ◌∷◌, ◌++◌, None, refl, sym, subst}
use Rattle.as4_effects.specs.declared.effect.Effect.{Effect}
use Rattle.exchange_model.specs.Apply.{applied, first_unfit}
use Rattle.exchange_model.specs.End.{End, empty_end}
use Rattle.exchange_model.specs.Fold.{resized}
use Rattle.fold_laws.specs.Reached.{Turn, Leads, IsReached}

-- one sequence of turns after another
leads_then : (turns more : List Turn) (start mid end : End) → Leads turns start mid → Leads more mid end → Leads (turns ++ more) start end
leads_then [] more start mid end first second = subst (λ (e : End). Leads more e end) (sym first) second
leads_then (Turn.Makes effects ∷ turns) more start mid end first second =
    (first.0, leads_then turns more (applied effects start) mid end first.1 second)
leads_then (Turn.Resizes size ∷ turns) more start mid end first second =
    leads_then turns more (resized size start) mid end first second

pub reached_first : IsReached empty_end
reached_first = ([], refl)

pub reached_applied : (end : End) (effects : List Effect) → IsReached end → first_unfit effects end ≡ None → IsReached (applied effects end)
reached_applied end effects reached fits =
    (reached.0 ++ Turn.Makes effects ∷ [], leads_then reached.0 (Turn.Makes effects ∷ []) empty_end end (applied effects end) reached.1 (fits, refl))

pub reached_resized : (end : End) (size : ℕ) → IsReached end → IsReached (resized size end)
reached_resized end size reached =
    (reached.0 ++ Turn.Resizes size ∷ [], leads_then reached.0 (Turn.Resizes size ∷ []) empty_end end (resized size end) reached.1 refl)
