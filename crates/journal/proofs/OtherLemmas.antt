-- The leaf that isn't picked.
use Rattle.std.proofs.Common.{◌≡◌, ◌≢◌, inl, inr, ℕ, ◌+◌, Bool, true, false, not, is_some, List, ◌++◌, Option, Some, length, drop, sym, ◌∙◌, ap, subst, arith}
use Rattle.as4_disk.specs.declared.disk.Disk.{Ghosts as DiskMeaning}
use Rattle.as4_disk.specs.declared.part.Part.{Part}
use Rattle.as4_disk.specs.declared.part.Part.TheVariants.{Selector}
use Rattle.as4_disk.specs.Bytes.{overwritten}
use Rattle.as4_disk.specs.Image.{Image, On}
use Rattle.std.proofs.lemmas.List.{append-nil, take_all, drop_all}
use Rattle.as4_disk.specs.Leaving.{FirstThen}
use Rattle.as4_disk.specs.Runs.{Goes, Follows}
use Rattle.as4_disk.proofs.RunLemmas.{weaken}
use Rattle.as4_disk.proofs.ImageLemmas.{only_elsewhere}
use Rattle.journal.specs.Store.{picks, leaf_of, is_second_of, picked_leaf}
use Rattle.journal.specs.Settled.{IsSettled}
use Rattle.journal.proofs.StoreLemmas.{picked_at, tells_some, settled_left}

pub leaves_differ : (is_second : Bool) → leaf_of is_second ≢ leaf_of (not is_second)
leaves_differ true same = cc
leaves_differ false same = cc

selector_differs : (is_second : Bool) → Selector ≢ leaf_of is_second
selector_differs true same = cc
selector_differs false same = cc

module _ {D : Type 0} (M : DiskMeaning D) (old new : D) (is_second : Bool) (part : Part) (is_part : part ≡ leaf_of (not is_second)) (step torn : List ℕ → List ℕ → Type 0) where
  off_selector : Selector ≢ part
  off_selector = let P : Part → Type 0 = λ p. Selector ≢ p in subst P (sym is_part) (selector_differs (not is_second))

  off_leaf : leaf_of is_second ≢ part
  off_leaf = let P : Part → Type 0 = λ p. leaf_of is_second ≢ p in subst P (sym is_part) (leaves_differ is_second)

  -- a call on it leaves the picked leaf settled, and does what it does
  pub other_kept : (leaf : List ℕ) → Goes (On part step) (M.seen old) (M.seen new) → is_some (M.seen new) ≡ is_some (M.seen old) → Follows (On part torn) (M.may_leave old) (M.may_leave new) → IsSettled M old is_second leaf → IsSettled M new is_second leaf
  other_kept leaf goes tells crash is =
      let told = tells_some (M.seen new) (tells ∙ ap (λ (o : Option Image). is_some o) is.told) in
      let went = goes is.image told.0 is.told told.1 in
      record {
        image = told.0;
        told = told.1;
        picked = ap picks (went.elsewhere Selector off_selector) ∙ is.picked;
        bytes = went.elsewhere (leaf_of is_second) off_leaf ∙ is.bytes;
        selector_only = λ c left. only_elsewhere Selector part torn is.image (M.may_leave old) (M.may_leave new) off_selector crash is.selector_only c left ∙ sym (went.elsewhere Selector off_selector);
        leaf_only = λ c left. only_elsewhere (leaf_of is_second) part torn is.image (M.may_leave old) (M.may_leave new) off_leaf crash is.leaf_only c left ∙ sym (went.elsewhere (leaf_of is_second) off_leaf);
      }

  pub other_stepped : (leaf : List ℕ) (b : Image) → Goes (On part step) (M.seen old) (M.seen new) → IsSettled M old is_second leaf → M.seen new ≡ Some b → (was : Image) × (M.seen old ≡ Some was) × step (was (leaf_of (not is_second))) (b (leaf_of (not is_second)))
  other_stepped leaf b goes is told =
      let went = goes is.image b is.told told in
      let P : Part → Type 0 = λ p. step (is.image p) (b p) in
      (is.image, is.told, subst P is_part went.there)

  -- an image in the middle of it has the same picked leaf
  pub other_torn : (leaf : List ℕ) (c : Image) → IsSettled M old is_second leaf → (d : Image) × M.may_leave old d × On part torn d c → picked_leaf c ≡ leaf
  other_torn leaf c is from =
      let was = settled_left M old is_second leaf from.0 is from.1 in
      let picked : is_second_of c ≡ is_second = ap picks (from.2.elsewhere Selector off_selector) ∙ was.0 in
      picked_at c is_second picked ∙ from.2.elsewhere (leaf_of is_second) off_leaf ∙ was.1

-- a write at the end
pub extended : (at : ℕ) (bytes other : List ℕ) → at ≡ length other → overwritten at bytes other ≡ other ++ bytes
extended at bytes other place =
    ap (λ (l : List ℕ). l ++ bytes ++ drop (at + length bytes) other) (take_all at other (omega (arith, place)))
    ∙ ap (λ (l : List ℕ). other ++ bytes ++ l) (drop_all (at + length bytes) other (omega (arith, place)))
    ∙ append-nil (other ++ bytes)

-- runs of two kinds, said weaker
pub first_weaken : {D : Type 0} (M : DiskMeaning D) (old new : D) (P Q R S : Image → Type 0) → ((c : Image) → P c → R c) → ((c : Image) → Q c → S c) → FirstThen M old new P Q → FirstThen M old new R S
first_weaken M old new P Q R S first next (inl run) = inl (weaken M old new P R first run)
first_weaken M old new P Q R S first next (inr both) =
    inr (both.0, weaken M old both.0 P R first both.1, weaken M both.0 new Q S next both.2)
