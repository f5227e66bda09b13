-- A store that was whole is left whole.
use Rattle.std.proofs.Common.{List, [], ◌∷◌, Some, None, inl, inr, sym, subst}
use Rattle.std.proofs.Math.Path.{fun_ext}
use Rattle.as4_disk.specs.Image.{Image}
use Rattle.exchange_model.specs.End.{End}
use Rattle.exchange_model.specs.Fold.{resized}
use Rattle.handler.specs.Stores.{BecomesBy}
use Rattle.mode_values.specs.declared.mode.Mode.{Mode}
use Rattle.msh_recovery.proofs.OpenLemmas.{opens_weaker}
use Rattle.msh_recovery.specs.Opens.{HasPendingEnd, IsFoldedOf, OpensAs, OpensWith, ReopensAs}
use Rattle.office.specs.Left.{IsLeft, IsStepTo}
use Rattle.office.specs.declared.call.Call.{Call}
use Rattle.office.specs.declared.call.Call.TheVariants.{Done, Folded, Stop}

-- a store is whole
abbrev IsWhole : Image → Type 0
IsWhole image = (end : End) × OpensAs image end

opened : (P : End → Type 0) (image : Image) (end : End) → OpensWith image end P → IsWhole image
opened P image end opens = (end, opens_weaker P (λ n. Unit {0}) image end (λ n has. tt) opens)

folded_whole : (image : Image) (end : End) → IsFoldedOf image end → IsWhole image
folded_whole image end (size, is, at) = opened (λ n. ⊥) image (resized size end) at.0

left_whole : (modes : List Mode) (end : End) (calls : List Call) (image : Image) → IsLeft modes end calls image → IsWhole image
left_whole modes end [] image left = opened (λ n. ⊥) image end left.0
left_whole modes end (Done event reply ∷ calls) image left = left_whole modes end calls image left
left_whole modes end (Folded size ∷ calls) image left = left_whole modes end calls image left
left_whole modes end (Stop (Some event) halt ∷ calls) image (inl before) = opened (IsStepTo modes end event) image end before.0
left_whole modes end (Stop (Some event) halt ∷ calls) image (inr (next, step, after)) = opened (λ n. ⊥) image next after.0
left_whole modes end (Stop None halt ∷ calls) image (inl at) = opened (λ n. ⊥) image end at.0
left_whole modes end (Stop None halt ∷ calls) image (inr folded) = folded_whole image end folded

reopened_whole : (before after : Image) (start : End) → OpensAs before start → ReopensAs before after → IsWhole after
reopened_whole before after start opens reopens = elim (reopens.opens start opens) [
  | inl (inl same) ↦ opened (HasPendingEnd before start) after start same
  | inl (inr (old, folded)) ↦ folded_whole after start folded
  | inr (next, pending, inl only) ↦ opened (λ n. ⊥) after next only
  | inr (next, pending, inr (old, folded)) ↦ folded_whole after next folded
]

pub becomes_whole : (may_be : List Mode → Type 0) (before after : Image) (start : End) → OpensAs before start → BecomesBy may_be before after
    → (end : End) × OpensAs after end
becomes_whole may_be before after start opens (inl same) = (start, subst (λ image. OpensAs image start) (sym (fun_ext same)) opens)
becomes_whole may_be before after start opens (inr (inl reopens)) = reopened_whole before after start opens reopens
becomes_whole may_be before after start opens (inr (inr (modes, calls, may, works))) = left_whole modes works.end calls after works.left
