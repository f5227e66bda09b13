-- What a power failure left reads as one end.
use Rattle.std.proofs.Common.{◌≡◌, inl, inr, List, [], ◌∷◌, Option, Some, None}
use Rattle.as4_disk.specs.Image.{Image}
use Rattle.mode_values.specs.declared.mode.Mode.{Mode}
use Rattle.msh_recovery.specs.Opens.{IsAtWith, OpensAs, OpensFolded, ReadsAs}
use Rattle.msh_recovery.proofs.OpenLemmas.{opens_weaker}
use Rattle.exchange_model.specs.End.{End}
use Rattle.exchange_model.specs.Fold.{resized}
use Rattle.exchange_model.specs.declared.event.Event.{Event}
use Rattle.office.specs.Left.{IsLeft, IsStepTo, OpensBeforeOrAfter}
use Rattle.office.specs.declared.call.Call.{Call}
use Rattle.office.specs.declared.call.Call.TheVariants.{Done, Folded, Stop}
use Rattle.history_laws.specs.Inside.{LeavesInside, ReadsAsOne}

module _ (one : (image : Image) (a b : End) → ReadsAs image a → ReadsAs image b → a ≡ b) (reads_whole : (image : Image) (end : End) → OpensAs image end → ReadsAs image end) where
  at_reads : (image : Image) (end : End) (P : End → Type 0) → IsAtWith image end P → ReadsAsOne image
  at_reads image end P at =
      let reads : ReadsAs image end = reads_whole image end (opens_weaker P (λ n. Unit {0}) image end (λ n has. tt) at.0) in
      (end, reads, λ other same. one image end other reads same)

  step_reads : (modes : List Mode) (end : End) (event : Event) (image : Image) → OpensBeforeOrAfter modes end event image → ReadsAsOne image
  step_reads modes end event image (inl at) = at_reads image end (IsStepTo modes end event) at
  step_reads modes end event image (inr (next, step, at)) = at_reads image next (λ n. ⊥) at

  fold_reads : (end : End) (image : Image) → OpensFolded image end → ReadsAsOne image
  fold_reads end image (inl at) = at_reads image end (λ n. ⊥) at
  fold_reads end image (inr (size, fits, at)) = at_reads image (resized size end) (λ n. ⊥) at

  pub left_reads : (modes : List Mode) (calls : List Call) (end : End) (image : Image) → IsLeft modes end calls image → ReadsAsOne image
  left_reads modes [] end image at = at_reads image end (λ n. ⊥) at
  left_reads modes (Done event r ∷ calls) end image left = left_reads modes calls end image left
  left_reads modes (Folded size ∷ calls) end image left = left_reads modes calls end image left
  left_reads modes (Stop (Some event) halt ∷ calls) end image left = step_reads modes end event image left
  left_reads modes (Stop None halt ∷ calls) end image left = fold_reads end image left

  pub inside_reads : (modes : List Mode) (event : Option Event) (end : End) (image : Image) → LeavesInside modes end event image → ReadsAsOne image
  inside_reads modes (Some event) end image left = step_reads modes end event image left
  inside_reads modes None end image left = fold_reads end image left
