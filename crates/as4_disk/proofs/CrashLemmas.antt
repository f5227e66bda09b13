-- What is picked of the changes up to the last sync of a part, and of those behind it.
use Rattle.std.proofs.Common.{◌≡◌, ℕ, ◌+◌, ◌<◌, Bool, true, false, Option, None, Some, List, [], ◌∷◌, ◌++◌, length, get_or, take, drop, refl, sym, ◌∙◌, ap, subst, arith, length-append}
use Rattle.std.specs.Prelude.{if◌then◌else◌, unwrap_or}
use Rattle.std.proofs.lemmas.List.{take_all, length-take-le, take_more, take-append-le, drop-append-le, drop_all}
use Rattle.as4_disk.specs.declared.part.Part.{Part}
use Rattle.as4_disk.specs.declared.files.Files.{Files}
use Rattle.as4_disk.specs.declared.change.Change.{Change}
use Rattle.as4_disk.specs.declared.change.Change.TheVariants.{Wrote, WasCut, Synced}
use Rattle.as4_disk.specs.declared.change.Pick.{Pick}
use Rattle.as4_disk.specs.declared.change.Pick.TheVariants.{New}
use Rattle.as4_disk.specs.Image.{Image, same_part}
use Rattle.as4_disk.specs.Files.{image_of}
use Rattle.as4_disk.specs.Changes.{is_sync_of, bytes_after, bytes_by}
use Rattle.as4_disk.specs.Picks.{left_by, left_after, left_by_all, pick_after, pick_by, EndWithLastSync}
use Rattle.as4_disk.specs.Memory.{DiskState, reads, MayLeave, picked}
use Rattle.as4_disk.specs.MemoryLaws.{if_either, pick_by-New, picked_left}
use Rattle.as4_disk.proofs.MemoryLemmas.{bytes_by-push}

pick_by-push : (pick : Pick) (q : Part) (changes : List Change) (change : Change) (read left : List ℕ) → pick_by pick q (changes ++ change ∷ []) read left ≡ pick_after pick q change (bytes_by q changes read) (pick_by pick q changes read left)
unfolding pick_by bytes_by
pick_by-push pick q [] change read left = refl
pick_by-push pick q (first ∷ changes) change read left =
    pick_by-push pick q changes change (bytes_after q first read) (pick_after pick q first read left)

left_by_all-push : (pick : Pick) (q : Part) (changes : List Change) (change : Change) (left : List ℕ) → left_by_all pick q (changes ++ change ∷ []) left ≡ left_after pick q change (left_by_all pick q changes left)
unfolding left_by_all
left_by_all-push pick q [] change left = refl
left_by_all-push pick q (first ∷ changes) change left = left_by_all-push pick q changes change (left_after pick q first left)

pub left_by_all-nil : (pick : Pick) (q : Part) (left : List ℕ) → left_by_all pick q [] left ≡ left
unfolding left_by_all
left_by_all-nil pick q left = refl

-- where a part is synced, what a read gives is left; elsewhere a sync does nothing
picks_synced : (pick : Pick) (q : Part) (change : Change) (read left : List ℕ) → is_sync_of q change ≡ true → pick_after pick q change read left ≡ bytes_after q change read
picks_synced pick q (Wrote part at bytes) read left is = absurd (cc)
picks_synced pick q (WasCut part len) read left is = absurd (cc)
picks_synced pick q (Synced part) read left is = ap (λ (b : Bool). if b then read else left) is ∙ sym (if_either (same_part part q) read)

picks_other : (pick : Pick) (q : Part) (change : Change) (read left : List ℕ) → is_sync_of q change ≡ false → pick_after pick q change read left ≡ left_after pick q change left
picks_other pick q (Wrote part at bytes) read left is = refl
picks_other pick q (WasCut part len) read left is = refl
picks_other pick q (Synced part) read left is =
    ap (λ (b : Bool). if b then read else left) is ∙ sym (ap (λ (b : Bool). if b then left_by pick (Synced part) left else left) is)

pub ends_none : (q : Part) → EndWithLastSync q [] 0
unfolding pick_by left_by_all bytes_by
ends_none q = (omega arith, λ pick first. refl)

module _ (q : Part) (changes : List Change) (change : Change) where
  ends_synced : is_sync_of q change ≡ true → EndWithLastSync q (changes ++ change ∷ []) (length changes + 1)
  ends_synced is = (
    omega (arith, length-append changes (change ∷ [])),
    λ pick first.
        pick_by-push pick q changes change first first
        ∙ picks_synced pick q change _ _ is
        ∙ sym (bytes_by-push q changes change first)
        ∙ sym
        (ap (λ (l : List Change). left_by_all pick q l (bytes_by q (take (length changes + 1) (changes ++ change ∷ [])) first)) (drop_all (length changes + 1) (changes ++ change ∷ []) (omega (arith, length-append changes (change ∷ []))))
        ∙ left_by_all-nil pick q _
        ∙ ap (λ (l : List Change). bytes_by q l first) (take_all (length changes + 1) (changes ++ change ∷ []) (omega (arith, length-append changes (change ∷ []))))),
  )

  ends_other : (count : ℕ) → EndWithLastSync q changes count → is_sync_of q change ≡ false → EndWithLastSync q (changes ++ change ∷ []) count
  ends_other count ends is = (
    omega (arith, length-append changes (change ∷ []), ends.0),
    λ pick first.
        pick_by-push pick q changes change first first
        ∙ picks_other pick q change _ _ is
        ∙ ap (λ (l : List ℕ). left_after pick q change l) (ends.1 pick first)
        ∙ sym
        (ap (λ (l : List Change). left_by_all pick q l (bytes_by q (take count (changes ++ change ∷ [])) first)) (drop-append-le count changes (change ∷ []) ends.0)
        ∙ ap (λ (l : List Change). left_by_all pick q (drop count changes ++ change ∷ []) (bytes_by q l first)) (take-append-le count changes (change ∷ []) ends.0)
        ∙ left_by_all-push pick q (drop count changes) change _),
  )

-- one change more of a list
take_item : (changes : List Change) (i : ℕ) (change : Change) → i < length changes → change ≡ get_or changes i change → take (i + 1) changes ≡ take i changes ++ change ∷ []
take_item changes i change within is =
    take_more changes i change within ∙ ap (λ (c : Change). take i changes ++ c ∷ []) (sym is)

module _ (changes : List Change) (i : ℕ) (change : Change) (within : i < length changes) (is : change ≡ get_or changes i change) (q : Part) (first bytes : List ℕ) where
  pub replayed_more : (later : List ℕ) → bytes ≡ bytes_by q (take i changes) first → later ≡ bytes_after q change bytes → later ≡ bytes_by q (take (i + 1) changes) first
  replayed_more later so_far more =
      more
      ∙ ap (λ (l : List ℕ). bytes_after q change l) so_far
      ∙ sym (bytes_by-push q (take i changes) change first)
      ∙ ap (λ (l : List Change). bytes_by q l first) (sym (take_item changes i change within is))

  pub left_more : (pick : Pick) (later : List ℕ) → bytes ≡ left_by_all pick q (take i changes) first → later ≡ left_after pick q change bytes → later ≡ left_by_all pick q (take (i + 1) changes) first
  left_more pick later so_far more =
      more
      ∙ ap (λ (l : List ℕ). left_after pick q change l) so_far
      ∙ sym (left_by_all-push pick q (take i changes) change first)
      ∙ ap (λ (l : List Change). left_by_all pick q l first) (sym (take_item changes i change within is))

module _ (changes : List Change) (i : ℕ) (change : Change) (within : i < length changes) (is : change ≡ get_or changes i change) (q : Part) where
  so_far : length (take i changes) ≡ i
  so_far = length-take-le i changes (omega arith)

  pub ends_more_synced : is_sync_of q change ≡ true → EndWithLastSync q (take (i + 1) changes) (i + 1)
  ends_more_synced synced =
      subst (λ (l : List Change). EndWithLastSync q l (i + 1)) (sym (take_item changes i change within is))
      (subst (λ (n : ℕ). EndWithLastSync q (take i changes ++ change ∷ []) (n + 1)) so_far (ends_synced q (take i changes) change synced))

  pub ends_more_other : (count : ℕ) → EndWithLastSync q (take i changes) count → is_sync_of q change ≡ false → EndWithLastSync q (take (i + 1) changes) count
  ends_more_other count ends other =
      subst (λ (l : List Change). EndWithLastSync q l count) (sym (take_item changes i change within is)) (ends_other q (take i changes) change count ends other)

-- What a disk in memory was made with, and then, from its fields.
module _ (disk : DiskState) (first : Option Files) (files : Files) (changes : List Change) (is_first : unwrap_or first files ≡ disk.first) (is_changes : changes ≡ disk.changes) where
  -- where nothing has changed, every pick leaves what it was made with
  pub picked_first : (pick : Pick) → first ≡ None → changes ≡ [] → (q : Part) → image_of files q ≡ picked pick disk q
  unfolding pick_by
  picked_first pick none unchanged q =
      let is_files : files ≡ disk.first = sym (ap (λ (f : Option Files). unwrap_or f files) none) ∙ is_first in
      ap (λ (f : Files). image_of f q) is_files
      ∙ ap (λ (l : List Change). pick_by pick q l (image_of disk.first q) (image_of disk.first q)) (sym unchanged ∙ is_changes)

  -- to pick what is new is to read
  pub picked_new : (pick : Pick) → pick ≡ New → ((q : Part) → image_of files q ≡ bytes_by q changes (image_of (unwrap_or first files) q)) → (q : Part) → image_of files q ≡ picked pick disk q
  picked_new pick is_new held q =
      held q
      ∙ ap (λ (f : Files). bytes_by q changes (image_of f q)) is_first
      ∙ ap (λ (l : List Change). bytes_by q l (image_of disk.first q)) is_changes
      ∙ sym (pick_by-New q disk.changes (image_of disk.first q) (image_of disk.first q) refl)
      ∙ ap (λ (p : Pick). picked p disk q) (sym is_new)

  -- and what the changes give is what is picked
  pub picked_changes : (pick : Pick) (kept : Files) → first ≡ Some kept → (q : Part) → pick_by pick q changes (image_of kept q) (image_of kept q) ≡ picked pick disk q
  picked_changes pick kept is_kept q =
      let is_disk : kept ≡ disk.first = sym (ap (λ (f : Option Files). unwrap_or f files) is_kept) ∙ is_first in
      ap (λ (l : List Change). pick_by pick q l (image_of kept q) (image_of kept q)) is_changes
      ∙ ap (λ (f : Files). pick_by pick q disk.changes (image_of f q) (image_of f q)) is_disk

-- what is picked is an image
pub picked_may : (pick : Pick) (disk left : DiskState) → ((q : Part) → reads left q ≡ picked pick disk q) → MayLeave disk (reads left)
picked_may pick disk left is = subst (MayLeave disk) (sym (λ i q. is q i)) (picked_left disk (λ _. pick))

-- and the only one of the disk that is left
pub only_reads : (disk : DiskState) (files : Files) → ((q : Part) → reads disk q ≡ image_of files q) → ((c : Image) → MayLeave disk c → c ≡ image_of files) → (c : Image) → MayLeave disk c → c ≡ reads disk
only_reads disk files read only c left = only c left ∙ sym (λ i q. read q i)
