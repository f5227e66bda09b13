-- What the layer above may cite of a journal's state, and of the images that a crash leaves.
use Rattle.std.proofs.Common.{◌≡◌, inl, inr, ℕ, ◌<◌, List, ◌∷◌, ◌++◌, Some, length, subst, arith}
use Rattle.as4_disk.specs.declared.disk.Disk.{Ghosts as DiskMeaning}
use Rattle.as4_disk.specs.Image.{Image}
use Rattle.journal.specs.declared.version.Version.{Version}
use Rattle.journal.specs.declared.version.Version.TheVariants.{Two}
use Rattle.journal.specs.declared.journal.Journal.{Journal}
use Rattle.journal.specs.Leaf.{limit_of, front_of, IsOfVersion, Lists}
use Rattle.journal.specs.Store.{picked_leaf, Reopens, KeepsLeaf}
use Rattle.journal.specs.Settled.{IsSettled}
use Rattle.journal.specs.State.{HasRead, HasRecords}
use Rattle.journal.proofs.StoreLemmas.{new_none, keeps_records, keeps_pending, settled_told}

-- ---- a journal

module _ {D : Type 0} (M : DiskMeaning D) (journal : Journal D) (bodies : List (List ℕ)) where
  -- the disk begins with what was read of it
  pub read_front : (b : Image) → HasRead M journal bodies → M.seen journal.disk ≡ Some b → (rest : List ℕ) × (picked_leaf b ≡ front_of journal.version bodies ++ rest) × (length (front_of journal.version bodies) < limit_of journal.version)
  read_front b read told =
      (read.next ∷ read.rest, (settled_told M journal.disk journal.is_second (front_of journal.version bodies ++ read.next ∷ read.rest) b read.settled told).2, read.within)

-- a journal of version 2
pub as_two : {D : Type 0} (M : DiskMeaning D) (journal : Journal D) (bodies : List (List ℕ)) → journal.version ≡ Two → (has : HasRecords M journal bodies)
    → IsSettled M journal.disk journal.is_second (front_of Two bodies ++ 0 ∷ has.rest) × (journal.gate ≡ length (front_of Two bodies)) × (length (front_of Two bodies) < limit_of Two)
as_two M journal bodies is_two has =
    let P : Version → Type 0 = λ v. IsSettled M journal.disk journal.is_second (front_of v bodies ++ 0 ∷ has.rest) × (journal.gate ≡ length (front_of v bodies)) × (length (front_of v bodies) < limit_of v) in
    subst P is_two (has.settled, has.place, has.within)

-- ---- what keeps the leaf

-- it keeps the version
pub keeps_version : (v : Version) (b c : Image) → KeepsLeaf b c → IsOfVersion v (picked_leaf c) → IsOfVersion v (picked_leaf b)
keeps_version v b c (inl same) is =
    let P : List ℕ → Type 0 = IsOfVersion v in
    subst P same is
keeps_version v b c (inr new) is = absurd (omega (arith, new.1, is.0))

-- and the records, and what is pending was pending
pub keeps_reopens : (b c : Image) → KeepsLeaf b c → Reopens b c
keeps_reopens b c keeps = record {
  version = λ v. keeps_version v b c keeps;
  records = λ bodies opens. inl (keeps_records b c keeps bodies opens, keeps_pending b c keeps bodies);
}

-- and the list of records that the leaf has it had before
pub keeps_lists : (bodies : List (List ℕ)) (b c : Image) → KeepsLeaf b c → Lists bodies (picked_leaf c) → Lists bodies (picked_leaf b)
keeps_lists bodies b c (inl same) lists =
    let P : List ℕ → Type 0 = Lists bodies in
    subst P same lists
keeps_lists bodies b c (inr new) (inl none) = inl (new.0, none.1)
keeps_lists bodies b c (inr new) (inr is) = inl (new.0, new_none is.0 bodies is.1 is.2 (picked_leaf c) is.3 new.1)
