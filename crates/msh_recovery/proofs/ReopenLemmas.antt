-- What an opening that is cut off leaves of a disk that folds nothing.
use Rattle.std.proofs.Common.{◌≡◌, ◌⊎◌, inl, inr, ⊎_elim, List, ℕ, subst}
use Rattle.as4_disk.specs.Image.{Image}
use Rattle.exchange_model.specs.End.{End}
use Rattle.journal.specs.Leaf.{Lists}
use Rattle.journal.specs.Store.{HasPending, picked_leaf}
use Rattle.journal.proofs.StoreLemmas.{lists_once, whole_lists}
use Rattle.msh_recovery.specs.Opens.{HasPendingEnd, IsAt, IsAtWith, IsMigrated, IsOld, OpensOnly, OpensWith, ReopensAs}
use Rattle.msh_recovery.proofs.OpenLemmas.{opens_weaker}
use Rattle.msh_recovery.proofs.RecordLemmas.{LeadsOnce}

module _ (one : LeadsOnce) (before after : Image) (end : End) (P : End → Type 0) where
  -- what is pending is what may be
  pending_is : OpensWith before end P → (next : End) → HasPendingEnd before end next → P next
  pending_is (bodies, by) next was =
      let version = was.has.0 in
      let lists : Lists was.bodies (picked_leaf before) = inr (version, was.has.1, was.has.2, was.has.3) in
      let same : was.bodies ≡ bodies = lists_once was.bodies bodies (picked_leaf before) lists (whole_lists bodies (picked_leaf before) by.records) in
      let Q : List (List ℕ) → Type 0 = λ l. HasPending l was.body before in
      let found = by.pending was.body (subst Q same was.has) in
      let is : found.0 ≡ next = one was.body end found.0 next found.1 was.on in
      subst P is found.2

  pub reopens_at : IsAtWith before end P → ReopensAs before after → IsAtWith after end P ⊎ ((next : End) × P next × IsAt after next)
  reopens_at (opens, young) reopens =
      let still : IsOld (picked_leaf after) → ⊥ = λ old. young (reopens.version old) in
      ⊎_elim
      (λ (here : OpensWith after end (HasPendingEnd before end) ⊎ IsMigrated before after end).
      ⊎_elim
      (λ (same : OpensWith after end (HasPendingEnd before end)). inl (opens_weaker (HasPendingEnd before end) P after end (pending_is opens) same, still))
      (λ (folded : IsMigrated before after end). absurd (young folded.0))
      here)
      (λ (later : (next : End) × HasPendingEnd before end next × (OpensOnly after next ⊎ IsMigrated before after next)).
      ⊎_elim
      (λ (only : OpensOnly after later.0). inr (later.0, pending_is opens later.0 later.1, (only, still)))
      (λ (folded : IsMigrated before after later.0). absurd (young folded.0))
      later.2)
      (reopens.opens end (opens_weaker P (λ next. Unit {0}) before end (λ next has. tt) opens))
