-- Reached endpoints: those that fitting effects lead to from the empty one. Their journals may be compacted on the way.
use Rattle.std.specs.Prelude.{◌≡◌, ℕ, List, [], ◌∷◌, None, true}
use Rattle.as4_effects.specs.declared.effect.Effect.{Effect}
use Rattle.exchange_model.specs.Apply.{applied, first_unfit, is_fit}
use Rattle.exchange_model.specs.End.{End, empty_end}
use Rattle.exchange_model.specs.Fold.{resized}

-- what happens to an endpoint: the effects of one record, or another size of its journal
pub data Turn : Type 0 where
  Makes : List Effect → Turn
  Resizes : ℕ → Turn

-- turn by turn from one endpoint to another; the effects of each record fit
abbrev pub Leads : List Turn → End → End → Type 0
Leads [] start end = start ≡ end
Leads (Turn.Makes effects ∷ turns) start end = (first_unfit effects start ≡ None) × Leads turns (applied effects start) end
Leads (Turn.Resizes size ∷ turns) start end = Leads turns (resized size start) end

abbrev pub IsReached : End → Type 0
IsReached end = (turns : List Turn) × Leads turns empty_end end

-- the effects are applied one after another, each in a record of its own, and each fits
abbrev pub AreReplayed : List Effect → End → End → Type 0
AreReplayed [] start end = start ≡ end
AreReplayed (e ∷ effects) start end = (is_fit e start ≡ true) × AreReplayed effects (applied (e ∷ []) start) end
