-- Why a disk in memory is a disk: what its picks and a read give is among its images.
use Rattle.std.specs.Prelude.{◌≡◌, ◌≢◌, ℕ, ◌≤◌, Bool, true, false, if◌then◌else◌, List, [], ◌∷◌, length, replicate, Some, refl}
use Rattle.std.proofs.Common.{sym, ◌∙◌, ap, subst, arith}
use Rattle.std.proofs.lemmas.List.{take_all, length-replicate}
use Rattle.as4_flow.specs.Flow.{Told}
use Rattle.as4_disk.specs.declared.part.Part.{Part}
use Rattle.as4_disk.specs.declared.part.Part.TheVariants.{Selector, Leaf0, Leaf1}
use Rattle.as4_disk.specs.declared.change.Change.{Change}
use Rattle.as4_disk.specs.declared.change.Change.TheVariants.{Wrote, WasCut, Synced}
use Rattle.as4_disk.specs.declared.change.Pick.{Pick}
use Rattle.as4_disk.specs.declared.change.Pick.TheVariants.{Old, New, Other}
use Rattle.as4_disk.specs.Bytes.{Torn, TornCut}
use Rattle.as4_disk.specs.Image.{Image, same_part}
use Rattle.as4_disk.specs.Files.{image_of}
use Rattle.as4_disk.specs.Changes.{bytes_after, bytes_by, LeftBy, LeftByAll, LeftOf, LeftSince}
use Rattle.as4_disk.specs.Picks.{left_by, pick_after, pick_by}
use Rattle.as4_disk.specs.Memory.{DiskState, reads, MayLeave}
use Rattle.as4_disk.specs.ByteLaws.{torn_same, torn_whole, cut_same, cut_whole}

pub if_same : (part : Part) (x y : List ℕ) → (if same_part part part then x else y) ≡ x
if_same Selector x y = refl
if_same Leaf0 x y = refl
if_same Leaf1 x y = refl

pub if_other : (part q : Part) → q ≢ part → (x y : List ℕ) → (if same_part part q then x else y) ≡ y
if_other Selector Selector other x y = absurd (other refl)
if_other Selector Leaf0 other x y = refl
if_other Selector Leaf1 other x y = refl
if_other Leaf0 Selector other x y = refl
if_other Leaf0 Leaf0 other x y = absurd (other refl)
if_other Leaf0 Leaf1 other x y = refl
if_other Leaf1 Selector other x y = refl
if_other Leaf1 Leaf0 other x y = refl
if_other Leaf1 Leaf1 other x y = absurd (other refl)

pub if_either : (b : Bool) (x : List ℕ) → (if b then x else x) ≡ x
if_either true x = refl
if_either false x = refl

-- whatever is picked, a write is done, cut short or not done
left_by_torn : (pick : Pick) (part : Part) (at : ℕ) (bytes left : List ℕ) → Torn at (length bytes) left (left_by pick (Wrote part at bytes) left)
left_by_torn Old part at bytes left = torn_same at (length bytes) left
left_by_torn New part at bytes left = torn_whole at bytes left
left_by_torn Other part at bytes left =
    subst (λ (n : ℕ). Torn at n left (left_by Other (Wrote part at bytes) left)) (length-replicate (length bytes) 0x37) (torn_whole at (replicate (length bytes) 0x37) left)

left_by_cut : (pick : Pick) (part : Part) (len : ℕ) (left : List ℕ) → TornCut len left (left_by pick (WasCut part len) left)
left_by_cut Old part len left = cut_same len left
left_by_cut New part len left = cut_whole len left
left_by_cut Other part len left = cut_same len left

-- to pick what was written last is to read
new_reads : (q : Part) (change : Change) (read left : List ℕ) → left ≡ read → pick_after New q change read left ≡ bytes_after q change read
new_reads q (Wrote part at bytes) read left same = ap (λ (l : List ℕ). bytes_after q (Wrote part at bytes) l) same
new_reads q (WasCut part len) read left same = ap (λ (l : List ℕ). bytes_after q (WasCut part len) l) same
new_reads q (Synced part) read left same =
    elim (same_part part q) as (λ (b : Bool). (if b then read else left) ≡ (if b then read else read)) [ true ↦ refl | false ↦ same ]

pub pick_by-New : (q : Part) (changes : List Change) (read left : List ℕ) → left ≡ read → pick_by New q changes read left ≡ bytes_by q changes read
unfolding pick_by bytes_by
pick_by-New q [] read left same = same
pick_by-New q (change ∷ changes) read left same =
    pick_by-New q changes (bytes_after q change read) (pick_after New q change read left) (new_reads q change read left same)

-- One change, where each mix of picks is an outcome before it.
module _ (read : Image) (outcomes : Image → Type 0) (left : Pick → Image) (may : (choice : Part → Pick) → outcomes (λ q. left (choice q) q)) (same : (q : Part) → left New q ≡ read q) where
  settled : (part : Part) (choice : Part → Pick) → Part → Pick
  settled part choice q = if same_part part q then New else choice q

  settled_reads : (part : Part) (choice : Part → Pick) (q : Part) → left (settled part choice q) q ≡ pick_after (choice q) q (Synced part) (read q) (left (choice q) q)
  unfolding settled
  settled_reads part choice q =
      elim (same_part part q) as (λ (b : Bool). left (if b then New else choice q) q ≡ (if b then read q else left (choice q) q)) [ true ↦ same q | false ↦ refl ]

  one_change : (change : Change) (choice : Part → Pick) → LeftBy change read outcomes (λ q. pick_after (choice q) q change (read q) (left (choice q) q))
  one_change (Wrote part at bytes) choice = (
    λ q. left (choice q) q,
    may choice,
    record {
      there = subst (λ (l : List ℕ). Torn at (length bytes) (left (choice part) part) l) (sym (if_same part _ _)) (left_by_torn (choice part) part at bytes (left (choice part) part));
      elsewhere = λ q other. if_other part q other _ _;
    },
  )
  one_change (WasCut part len) choice = (
    λ q. left (choice q) q,
    may choice,
    record {
      there = subst (λ (l : List ℕ). TornCut len (left (choice part) part) l) (sym (if_same part _ _)) (left_by_cut (choice part) part len (left (choice part) part));
      elsewhere = λ q other. if_other part q other _ _;
    },
  )
  one_change (Synced part) choice = (
    subst outcomes (λ i q. settled_reads part choice q i) (may (settled part choice)),
    if_same part _ _,
  )

-- Each mix of picks is an image, part by part.
mixed_left : (changes : List Change) (read : Image) (outcomes : Image → Type 0) (left : Pick → Image) → ((choice : Part → Pick) → outcomes (λ q. left (choice q) q)) → ((q : Part) → left New q ≡ read q) → (choice : Part → Pick) → LeftByAll changes read outcomes (λ q. pick_by (choice q) q changes (read q) (left (choice q) q))
unfolding LeftByAll pick_by
mixed_left [] read outcomes left may same choice = may choice
mixed_left (change ∷ changes) read outcomes left may same choice =
    mixed_left changes
    (λ q. bytes_after q change (read q))
    (LeftBy change read outcomes)
    (λ pick q. pick_after pick q change (read q) (left pick q))
    (one_change read outcomes left may same change)
    (λ q. new_reads q change (read q) (left New q) (same q))
    choice

pub picked_left : (disk : DiskState) (choice : Part → Pick) → MayLeave disk (λ q. pick_by (choice q) q disk.changes (image_of disk.first q) (image_of disk.first q))
unfolding LeftOf
picked_left disk choice =
    mixed_left disk.changes (image_of disk.first) (λ d. d ≡ image_of disk.first) (λ _. image_of disk.first) (λ _. refl) (λ q. refl) choice

-- The laws of a disk.

pub reads_now_of : (disk : DiskState) → Told (Some (reads disk)) (MayLeave disk)
reads_now_of disk image told =
    let is_read : reads disk ≡ image = cc in
    subst (MayLeave disk) ((λ i q. pick_by-New q disk.changes (image_of disk.first q) (image_of disk.first q) refl i) ∙ is_read) (picked_left disk (λ _. New))

pub counts_now_of : (disk : DiskState) (t : ℕ) (c : Image) → t ≤ length disk.changes → MayLeave disk c → LeftSince disk.first disk.changes t c
unfolding LeftSince
counts_now_of disk t c le left =
    (length disk.changes, le, omega arith, subst (λ (l : List Change). LeftOf disk.first l c) (sym (take_all (length disk.changes) disk.changes (omega arith))) left)

pub only_now_of : (disk : DiskState) (c : Image) → LeftSince disk.first disk.changes (length disk.changes) c → MayLeave disk c
unfolding LeftSince
only_now_of disk c left =
    subst (λ (l : List Change). LeftOf disk.first l c) (take_all left.0 disk.changes left.1) left.3
