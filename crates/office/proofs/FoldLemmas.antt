-- What a checkpoint does.
use Rattle.std.proofs.Common.{◌≡◌, ◌⊎◌, inl, inr, ℕ, ◌<◌, ◌^◌, List, Option, Some, None, refl, subst, arith}
use Rattle.as4_disk.specs.declared.disk.Disk.{Ghosts as DiskMeaning}
use Rattle.as4_disk.specs.Image.{Image}
use Rattle.as4_disk.specs.Leaving.{FirstThen, LeavesOnly}
use Rattle.exchange_model.specs.End.{End, empty_end}
use Rattle.exchange_model.specs.Fold.{IsFoldedSize, resized}
use Rattle.journal.specs.Store.{InVersion, OpensSettled}
use Rattle.journal.specs.declared.version.Version.{Version}
use Rattle.journal.specs.declared.version.Version.TheVariants.{Two}
use Rattle.msh_core.specs.Folding.{capped}
use Rattle.msh_recovery.specs.Opens.{IsAt, OpensFolded}
use Rattle.msh_recovery.specs.Records.{RecordsLead}
use Rattle.msh_recovery.proofs.OpenLemmas.{settled_at}
use Rattle.msh_journal.proofs.RunLemmas.{first_all}

-- a number below 2^64 is the size itself
pub short_size : (size found : ℕ) → found ≡ capped size → found < 2 ^ 32 → size ≡ found
short_size size found is short = omega (arith, is, short)

-- what is never seen is none
pub none_seen : {X : Type 0} (seen : Option X) → ((image : X) → seen ≡ Some image → ⊥) → seen ≡ None
none_seen None never = refl
none_seen (Some image) never = absurd (never image refl)

pub folded_size_is : (end : End) (found : ℕ) → ((size : ℕ) × IsFoldedSize end size × (found ≡ capped size)) → found < 2 ^ 32 → IsFoldedSize end found
folded_size_is end found (size, folded, is) short = subst (IsFoldedSize end) (short_size size found is short) folded

-- the images of a fold are at the end, or at the end with the fold
module _ {bodies : List (List ℕ)} {end : End} {size : ℕ} (leads : RecordsLead bodies empty_end end) (folded : IsFoldedSize end size) where
  here : (c : Image) → InVersion Two (OpensSettled bodies) c → OpensFolded c end
  here c settled = inl (settled_at bodies end c leads settled)

  there : (c : Image) → InVersion Two (OpensSettled bodies) c ⊎ IsAt c (resized size end) → OpensFolded c end
  there c (inl settled) = here c settled
  there c (inr at) = inr (size, folded, at)

  pub fold_run : {D : Type 0} {M : DiskMeaning D} {old new : D} {version : Version} → version ≡ Two
      → FirstThen M old new (InVersion version (OpensSettled bodies)) (λ c. InVersion version (OpensSettled bodies) c ⊎ IsAt c (resized size end)) → LeavesOnly M old new (λ c. OpensFolded c end)
  fold_run {D} {M} {old} {new} two run =
      let P : Version → Type 0 = λ v. FirstThen M old new (InVersion v (OpensSettled bodies)) (λ c. InVersion v (OpensSettled bodies) c ⊎ IsAt c (resized size end)) in
      first_all M old new (InVersion Two (OpensSettled bodies)) (λ c. InVersion Two (OpensSettled bodies) c ⊎ IsAt c (resized size end)) (λ c. OpensFolded c end) here there (subst P two run)
