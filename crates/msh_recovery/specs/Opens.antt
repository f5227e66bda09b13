-- What a disk opens to, as an end. A leaf of version 1 opens to the end that its records lead to, with the size that
-- they have in version 2, which is what an office writes.
use Rattle.std.specs.Prelude.{◌≡◌, ◌⊎◌, ℕ, ◌+◌, List, IsNone}
use Rattle.as4_disk.specs.Image.{Image}
use Rattle.as4_disk.specs.declared.disk.Disk.{Ghosts as DiskMeaning}
use Rattle.as4_flow.specs.Flow.{Told}
use Rattle.msh_recovery.specs.Records.{RecordLeads, RecordsLead}
use Rattle.exchange_model.specs.End.{End, empty_end}
use Rattle.exchange_model.specs.Fold.{IsFoldedSize, resized}
use Rattle.journal.specs.Leaf.{IsOfVersion, Lists}
use Rattle.journal.specs.State.{HasRecords}
use Rattle.journal.specs.Store.{HasPending, OpensTo, picked_leaf}
use Rattle.journal.specs.declared.journal.Journal.{Journal}
use Rattle.journal.specs.declared.version.Version.TheVariants.{One, Two}

-- The disk is whole: it opens to these records, they lead from the empty end to this one, and a record that is pending
-- behind them leads on from there, to an end of which P holds.
pub record OpensBy (bodies : List (List ℕ)) (image : Image) (end : End) (P : End → Type 0) : Type 0 where
  pub records : OpensTo bodies image
  pub leads : RecordsLead bodies empty_end end
  pub pending : (body : List ℕ) → HasPending bodies body image → (next : End) × RecordLeads body end next × P next

-- the disk is whole and opens to this end, and what is pending leads to an end of which P holds
abbrev pub OpensWith : Image → End → (End → Type 0) → Type 0
OpensWith image end P = (bodies : List (List ℕ)) × OpensBy bodies image end P

-- whatever is pending
abbrev pub OpensAs : Image → End → Type 0
OpensAs image end = OpensWith image end (λ next. Unit {0})

-- and nothing is pending
abbrev pub OpensOnly : Image → End → Type 0
OpensOnly image end = OpensWith image end (λ next. ⊥)

-- it opens to the first end, and its pending record leads to the second
pub record HasPendingEnd (image : Image) (end next : End) : Type 0 where
  pub bodies : List (List ℕ)
  pub body : List ℕ
  pub leads : RecordsLead bodies empty_end end
  pub has : HasPending bodies body image
  pub on : RecordLeads body end next

-- a leaf of version 1
abbrev pub IsOld : List ℕ → Type 0
IsOld leaf = IsOfVersion One leaf

-- the disk opens with what may be pending, and its leaf isn't of version 1, so that opening it folds nothing
abbrev pub IsAtWith : Image → End → (End → Type 0) → Type 0
IsAtWith image end P = OpensWith image end P × (IsOld (picked_leaf image) → ⊥)

-- the disk is at this end: nothing is pending, and opening it folds nothing
abbrev pub IsAt : Image → End → Type 0
IsAt image end = IsAtWith image end (λ next. ⊥)

-- it is at the first end, with the second pending at most, or it is at the second
abbrev pub IsAtOneOf : Image → End → End → Type 0
IsAtOneOf image end next = IsAtWith image end (λ n. n ≡ next) ⊎ IsAt image next

-- it is at this end with a folded journal
abbrev pub IsFoldedOf : Image → End → Type 0
IsFoldedOf image end = (size : ℕ) × IsFoldedSize end size × IsAt image (resized size end)

-- it is at this end, or at this end with a folded journal
abbrev pub OpensFolded : Image → End → Type 0
OpensFolded image end = IsAt image end ⊎ IsFoldedOf image end

-- the first disk's leaf was of version 1, and the second is at this end with a folded journal
abbrev pub IsMigrated : Image → Image → End → Type 0
IsMigrated before after end = IsOld (picked_leaf before) × IsFoldedOf after end

-- From a disk that read so to what a crash leaves while it is opened: it opens to the same end, and what is pending was
-- pending; or to that behind the pending record, with nothing pending. Where the leaf was of version 1, the journal of
-- either may be folded; where it wasn't, it isn't now.
pub record ReopensAs (before after : Image) : Type 0 where
  pub version : IsOld (picked_leaf after) → IsOld (picked_leaf before)
  pub opens : (end : End) → OpensAs before end
      → (OpensWith after end (HasPendingEnd before end) ⊎ IsMigrated before after end)
      ⊎ ((next : End) × HasPendingEnd before end next × (OpensOnly after next ⊎ IsMigrated before after next))

-- the records of this disk lead to this end; whether the disk is whole isn't said
abbrev pub ReadsAs : Image → End → Type 0
ReadsAs image end = (bodies : List (List ℕ)) × Lists bodies (picked_leaf image) × RecordsLead bodies empty_end end

-- on a disk that tells, each crash leaves one that is at this end
abbrev pub KeepsEnd : {D : Type 0} → DiskMeaning D → D → End → Type 0
KeepsEnd M disk end = Told (M.seen disk) (λ _. (c : Image) → M.may_leave disk c → IsAt c end)

-- The journal of an end: of version 2, as long as the end says, and no fold is open. On a disk that tells it has records
-- that lead to the end.
pub record IsJournalOf {D : Type 0} (M : DiskMeaning D) (end : End) (journal : Journal D) : Type 0 where
  pub version : journal.version ≡ Two
  pub no_fold : IsNone journal.fold
  pub size : end.size ≡ journal.gate + 1
  pub records : Told (M.seen journal.disk) (λ _. (bodies : List (List ℕ)) × HasRecords M journal bodies × RecordsLead bodies empty_end end)
