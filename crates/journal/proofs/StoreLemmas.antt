-- Disks of a journal: what is settled of the picked leaf, and what the images of a crash open to.
use Rattle.std.proofs.Common.{◌≡◌, ◌≢◌, ◌⊎◌, inl, inr, ⊎_elim, ℕ, ◌<◌, Bool, true, false, is_some, List, [], ◌∷◌, ◌++◌, Option, Some, None, length, take, drop, get_or, refl, sym, ◌∙◌, ap, subst, arith, append_assoc, length-append}
use Rattle.std.specs.Prelude.{flat_map}
use Rattle.std.proofs.lemmas.Bool.{cases_eq}
use Rattle.std.proofs.lemmas.List.{append-nil}
use Rattle.as4_disk.specs.declared.disk.Disk.{Ghosts as DiskMeaning}
use Rattle.as4_disk.specs.declared.part.Part.{Part}
use Rattle.as4_disk.specs.declared.part.Part.TheVariants.{Selector}
use Rattle.as4_disk.specs.Bytes.{IsOverwritten, Torn}
use Rattle.as4_disk.specs.Image.{Image, On, IsOnly, TornFrom}
use Rattle.as4_disk.specs.Runs.{Goes, Follows, Within}
use Rattle.as4_flow.specs.Flow.{Told}
use Rattle.as4_disk.proofs.ByteLemmas.{overwritten_behind}
use Rattle.as4_disk.proofs.ImageLemmas.{only_elsewhere, only_within}
use Rattle.journal.specs.declared.version.Version.{Version}
use Rattle.journal.specs.Leaf.{limit_of, length_bytes, record_of, front_of, HasMagic, IsLeaf, IsPending, IsNew, Lists, IsWholeLeaf}
use Rattle.journal.specs.Store.{picks, leaf_of, is_second_of, picked_leaf, OpensTo, HasPending, OpensWith, OpensSettled, OpensToOneOf, InVersion, Reopens, KeepsLeaf}
use Rattle.journal.specs.Settled.{IsSettled}
use Rattle.journal.proofs.LeafLemmas.{front_magic, length-front, length-front_more, front_more, record_at, record_head, reached}

-- ---- leaves

-- a new leaf has no records, also where it has a magic
pub new_none : (version : Version) (bodies : List (List ℕ)) (gate : ℕ) (rest leaf : List ℕ) → IsLeaf version bodies gate rest leaf → IsNew leaf → bodies ≡ []
new_none version [] gate rest leaf is new = refl
new_none version (body ∷ bodies) gate rest leaf is new =
    absurd (omega (
      arith,
      new,
      ap length is.bytes,
      length-append (front_of version (body ∷ bodies)) (gate ∷ rest),
      length-front version (body ∷ bodies),
      length-append (record_of version body) (flat_map (record_of version) bodies),
      ap length (record_at version body []),
      length-append (record_of version body) [],
    ))

-- of one leaf
pub one_leaf : (v w : Version) (read all : List (List ℕ)) (g h : ℕ) (x y leaf : List ℕ) → IsLeaf v read g x leaf → IsLeaf w all h y leaf → (v ≡ w) × (read ≡ all) × (g ≡ h) × (x ≡ y)
one_leaf v w read all g h x y leaf first other =
    let found = reached v w read all (g ∷ x) h y first.within other.within other.closed (sym first.bytes ∙ other.bytes) in
    none found.1.0 found.0 found.1.1 found.1.2
  where
    none : (more : List (List ℕ)) → v ≡ w → all ≡ read ++ more → g ∷ x ≡ flat_map (record_of v) more ++ h ∷ y → (v ≡ w) × (read ≡ all) × (g ≡ h) × (x ≡ y)
    none [] versions bodies same = (versions, sym (bodies ∙ append-nil read), ap (λ (l : List ℕ). get_or l 0 0) same, ap (λ (l : List ℕ). drop 1 l) same)
    none (body ∷ more) versions bodies same =
        absurd (first.closed (ap (λ (l : List ℕ). get_or l 0 0) (same ∙ append_assoc (record_of v body) (flat_map (record_of v) more) (h ∷ y) ∙ record_at v body (flat_map (record_of v) more ++ h ∷ y))))

pub whole_lists : (bodies : List (List ℕ)) (leaf : List ℕ) → IsWholeLeaf bodies leaf → Lists bodies leaf
whole_lists bodies leaf (inl new) = inl new
whole_lists bodies leaf (inr w) = inr (w.0, w.1, w.2, w.3)

-- a leaf has one list of records
pub lists_once : (xs ys : List (List ℕ)) (leaf : List ℕ) → Lists xs leaf → Lists ys leaf → xs ≡ ys
lists_once xs ys leaf (inl a) (inl b) = a.1 ∙ sym b.1
lists_once xs ys leaf (inl a) (inr b) = a.1 ∙ sym (new_none b.0 ys b.1 b.2 leaf b.3 a.0)
lists_once xs ys leaf (inr a) (inl b) = new_none a.0 xs a.1 a.2 leaf a.3 b.0 ∙ sym b.1
lists_once xs ys leaf (inr a) (inr b) = (one_leaf a.0 b.0 xs ys a.1 b.1 a.2 b.2 leaf a.3 b.3).1

-- an open gate with a whole record behind it
pub opened : (version : Version) (bodies : List (List ℕ)) (body after : List ℕ) (gate : ℕ) → front_of version bodies ++ 1 ∷ (length_bytes version (length body) ++ body ++ gate ∷ after) ≡ front_of version (bodies ++ body ∷ []) ++ gate ∷ after
opened version bodies body after gate =
    ap (λ (l : List ℕ). front_of version bodies ++ l) (sym (record_at version body (gate ∷ after)))
    ∙ sym (append_assoc (front_of version bodies) (record_of version body) (gate ∷ after))
    ∙ ap (λ (l : List ℕ). l ++ gate ∷ after) (sym (front_more version bodies body))

-- ---- what is pending

-- behind one gate one record is pending
one_pending : (version : Version) (bodies : List (List ℕ)) (a b rest : List ℕ) → IsPending version bodies a rest → IsPending version bodies b rest → a ≡ b
one_pending version bodies a b rest first other =
    let behind_a = record_at version a (0 ∷ first.after) in
    let behind_b = record_at version b (0 ∷ other.after) in
    (record_head version a b (0 ∷ first.after) (0 ∷ other.after)
    (omega (arith, first.within, length-front_more version bodies a)) (omega (arith, other.within, length-front_more version bodies b))
    (behind_a ∙ ap (λ (l : List ℕ). 1 ∷ l) (sym first.bytes ∙ other.bytes) ∙ sym behind_b)).0

-- what is pending stands behind the leaf's one closed gate, and that isn't 0
pending_here : (version : Version) (bodies : List (List ℕ)) (gate : ℕ) (rest body : List ℕ) (image : Image) → IsLeaf version bodies gate rest (picked_leaf image) → HasPending bodies body image → (gate ≢ 0) × IsPending version bodies body rest
pending_here version bodies gate rest body image here (v, g, x, is, not_zero, pending) =
    let same = one_leaf version v bodies bodies gate g rest x (picked_leaf image) here is in
    let P : Version → Type 0 = λ u. IsPending u bodies body x in
    let Q : List ℕ → Type 0 = λ l. IsPending version bodies body l in
    (λ zero_is. not_zero (sym same.2 ∙ zero_is), subst Q (sym same.3) (subst P (sym same.0) pending))

-- nothing is pending in a new leaf
none_pending : (bodies : List (List ℕ)) (body : List ℕ) (image : Image) → IsNew (picked_leaf image) → HasPending bodies body image → ⊥
none_pending bodies body image short (version, gate, rest, is, not_zero, pending) =
    omega (arith, short, ap length is.bytes, length-append (front_of version bodies) (gate ∷ rest), length-front version bodies, ap length pending.bytes, length-append (length_bytes version (length body) ++ body) (0 ∷ pending.after))

-- ---- what an image opens to

-- a leaf that begins with a front has its magic
pub magic_in : (version : Version) (bodies : List (List ℕ)) (rest leaf : List ℕ) → leaf ≡ front_of version bodies ++ rest → HasMagic version leaf
magic_in version bodies rest leaf bytes = ap (λ (l : List ℕ). take 8 l) bytes ∙ front_magic version bodies rest

-- where none is pending, any may be
pub settled_opens : (bodies : List (List ℕ)) (may_pend : List ℕ → Type 0) (image : Image) → OpensSettled bodies image → OpensWith bodies may_pend image
settled_opens bodies may_pend image settled = (settled.0, λ body has. absurd (settled.1 body has))

-- a gate 0 ends the records, and none is pending
pub closed_opens : (version : Version) (bodies : List (List ℕ)) (rest : List ℕ) (image : Image) → length (front_of version bodies) < limit_of version → picked_leaf image ≡ front_of version bodies ++ 0 ∷ rest → OpensSettled bodies image
closed_opens version bodies rest image within bytes =
    let here : IsLeaf version bodies 0 rest (picked_leaf image) = record { bytes = bytes; closed = λ zero_is. absurd (omega (arith, zero_is)); within = within } in
    (inr (version, 0, rest, here, inl refl), λ body has. (pending_here version bodies 0 rest body image here has).0 refl)

-- and its version is the front's
pub closed_in : (version : Version) (bodies : List (List ℕ)) (rest : List ℕ) (image : Image) → length (front_of version bodies) < limit_of version → picked_leaf image ≡ front_of version bodies ++ 0 ∷ rest → InVersion version (OpensSettled bodies) image
closed_in version bodies rest image within bytes =
    (closed_opens version bodies rest image within bytes, magic_in version bodies (0 ∷ rest) (picked_leaf image) bytes)

-- a whole record behind a closed gate is pending, and no other is
pub pending_opens : (version : Version) (bodies : List (List ℕ)) (body rest : List ℕ) (gate : ℕ) (image : Image) → IsLeaf version bodies gate rest (picked_leaf image) → IsPending version bodies body rest → OpensWith bodies (λ other. other ≡ body) image
pending_opens version bodies body rest gate image here pending = (
  inr (version, gate, rest, here, inr (body, pending)),
  λ other has. one_pending version bodies other body rest (pending_here version bodies gate rest other image here has).1 pending,
)

-- whatever the gate of a whole record is, it counts or is pending, and no other is
pub gate_opens : (version : Version) (bodies : List (List ℕ)) (body after : List ℕ) (gate : ℕ) (image : Image) → length (front_of version bodies) < limit_of version → length (front_of version (bodies ++ body ∷ [])) < limit_of version
    → picked_leaf image ≡ front_of version bodies ++ gate ∷ (length_bytes version (length body) ++ body ++ 0 ∷ after) → OpensToOneOf bodies body image
gate_opens version bodies body after gate image within within_more bytes =
    ⊎_elim
    (λ (is_open : gate ≡ 1).
    inr (closed_opens version (bodies ++ body ∷ []) after image within_more
    (bytes ∙ ap (λ (g : ℕ). front_of version bodies ++ g ∷ (length_bytes version (length body) ++ body ++ 0 ∷ after)) is_open ∙ opened version bodies body after 0)))
    (λ (closed : gate ≡ 1 → ⊥).
    inl (pending_opens version bodies body (length_bytes version (length body) ++ body ++ 0 ∷ after) gate image
    (record { bytes = bytes; closed = closed; within = within }) (record { within = within_more; after = after; bytes = refl })))
    (cases_eq gate 1)

-- ---- what keeps the leaf

-- it keeps the records
pub keeps_records : (before after : Image) → KeepsLeaf before after → (bodies : List (List ℕ)) → OpensTo bodies before → OpensTo bodies after
keeps_records before after (inl same) bodies opens =
    let P : List ℕ → Type 0 = IsWholeLeaf bodies in
    subst P (sym same) opens
keeps_records before after (inr new) bodies (inl none) = inl (new.1, none.1)
keeps_records before after (inr new) bodies (inr w) = inl (new.1, new_none w.0 bodies w.1 w.2 (picked_leaf before) w.3 new.0)

-- and what is pending was pending
pub keeps_pending : (before after : Image) → KeepsLeaf before after → (bodies : List (List ℕ)) (body : List ℕ) → HasPending bodies body after → HasPending bodies body before
keeps_pending before after (inl same) bodies body (version, gate, rest, is, not_zero, pending) =
    let P : List ℕ → Type 0 = IsLeaf version bodies gate rest in
    (version, gate, rest, subst P same is, not_zero, pending)
keeps_pending before after (inr new) bodies body has = absurd (none_pending bodies body after new.1 has)

-- The gate that was met last is being closed: behind what was read, and over a whole disk, any byte there opens again.
closing_records : (version : Version) (read : List (List ℕ)) (gate other : ℕ) (rest : List ℕ) (before after : Image) → length (front_of version read) < limit_of version → gate ≢ 1 → gate ≢ 0
    → picked_leaf before ≡ front_of version read ++ gate ∷ rest → picked_leaf after ≡ front_of version read ++ other ∷ rest
    → (bodies : List (List ℕ)) → OpensTo bodies before
    → OpensWith bodies (λ body. HasPending bodies body before) after ⊎ ((body : List ℕ) × HasPending bodies body before × OpensSettled (bodies ++ body ∷ []) after)
closing_records version read gate other rest before after within closed not_zero bytes bytes_after bodies (inl none) =
    let new : IsNew (picked_leaf after) = omega (arith, none.0, ap length bytes, ap length bytes_after, length-append (front_of version read) (gate ∷ rest), length-append (front_of version read) (other ∷ rest)) in
    inl (inl (new, none.1), λ body has. absurd (none_pending bodies body after new has))
closing_records version read gate other rest before after within closed not_zero bytes bytes_after bodies (inr w) =
    let here : IsLeaf version read gate rest (picked_leaf before) = record { bytes = bytes; closed = closed; within = within } in
    let same = one_leaf version w.0 read bodies gate w.1 rest w.2 (picked_leaf before) here w.3 in
    let P : List (List ℕ) → Type 0 = λ l. IsLeaf version l gate rest (picked_leaf before) in
    let Q : List (List ℕ) → Type 0 = λ l. picked_leaf after ≡ front_of version l ++ other ∷ rest in
    ⊎_elim
    (λ (zero_is : w.1 ≡ 0). absurd (not_zero (same.2 ∙ zero_is)))
    (λ found. (
    let has : HasPending bodies found.0 before = (w.0, w.1, w.2, w.3, λ zero_is. not_zero (same.2 ∙ zero_is), found.1) in
    pending found.0 (subst P same.1 here) (subst Q same.1 bytes_after) has))
    w.4
  where
    pending : (body : List ℕ) → IsLeaf version bodies gate rest (picked_leaf before) → picked_leaf after ≡ front_of version bodies ++ other ∷ rest → HasPending bodies body before
        → OpensWith bodies (λ body. HasPending bodies body before) after ⊎ ((body : List ℕ) × HasPending bodies body before × OpensSettled (bodies ++ body ∷ []) after)
    pending body here new has =
        let is = (pending_here version bodies gate rest body before here has).1 in
        let P : List ℕ → Type 0 = λ b. HasPending bodies b before in
        ⊎_elim
        (λ without. inl (without.0, λ b has_b. subst P (sym (without.1 b has_b)) has))
        (λ opens. inr (body, has, opens))
        (gate_opens version bodies body is.after other after here.within is.within (new ∙ ap (λ (l : List ℕ). front_of version bodies ++ other ∷ l) is.bytes))

-- and the leaf has the version that it had
pub closing_reopens : (version : Version) (read : List (List ℕ)) (gate other : ℕ) (rest : List ℕ) (before after : Image) → length (front_of version read) < limit_of version → gate ≢ 1 → gate ≢ 0
    → picked_leaf before ≡ front_of version read ++ gate ∷ rest → picked_leaf after ≡ front_of version read ++ other ∷ rest → Reopens before after
closing_reopens version read gate other rest before after within closed not_zero bytes bytes_after = record {
  version = λ v is. (
    omega (arith, is.0, ap length bytes, ap length bytes_after, length-append (front_of version read) (gate ∷ rest), length-append (front_of version read) (other ∷ rest)),
    magic_in version read (gate ∷ rest) (picked_leaf before) bytes ∙ sym (magic_in version read (other ∷ rest) (picked_leaf after) bytes_after) ∙ is.1,
  );
  records = closing_records version read gate other rest before after within closed not_zero bytes bytes_after;
}

-- ---- what is settled

leaf_not_selector : (is_second : Bool) → Selector ≢ leaf_of is_second
leaf_not_selector true same = cc
leaf_not_selector false same = cc

pub picked_at : (image : Image) (is_second : Bool) → is_second_of image ≡ is_second → picked_leaf image ≡ image (leaf_of is_second)
unfolding picked_leaf
picked_at image is_second is = ap (λ (b : Bool). image (leaf_of b)) is

pub told_same : {X : Type 0} {told : Option X} (v w : X) → told ≡ Some v → told ≡ Some w → v ≡ w
told_same v w first next = cc

pub tells_some : (o : Option Image) → is_some o ≡ true → (image : Image) × (o ≡ Some image)
tells_some (Some image) is = (image, refl)
tells_some None is = absurd cc

-- a call on the picked leaf changes its bytes, and the same leaf is picked
pub picked_on : (part : Part) (is_second : Bool) (step : List ℕ → List ℕ → Type 0) (c d : Image) → part ≡ leaf_of is_second → is_second_of c ≡ is_second → On part step c d → (is_second_of d ≡ is_second) × step (picked_leaf c) (picked_leaf d)
picked_on part is_second step c d is_part picked on =
    let P : Part → Type 0 = λ p. Selector ≢ p in
    let other : Selector ≢ part = subst P (sym is_part) (leaf_not_selector is_second) in
    let still : is_second_of d ≡ is_second = ap picks (on.elsewhere Selector other) ∙ picked in
    let was : c part ≡ picked_leaf c = ap c is_part ∙ sym (picked_at c is_second picked) in
    let now : d part ≡ picked_leaf d = ap d is_part ∙ sym (picked_at d is_second still) in
    let Q : List ℕ → Type 0 = λ l. step l (d part) in
    (still, subst (step (picked_leaf c)) now (subst Q was on.there))

module _ {D : Type 0} (M : DiskMeaning D) where
  -- what a read gives is what is settled
  pub settled_told : (disk : D) (is_second : Bool) (leaf : List ℕ) (image : Image) → IsSettled M disk is_second leaf → M.seen disk ≡ Some image → (is_second_of image ≡ is_second) × (image (leaf_of is_second) ≡ leaf) × (picked_leaf image ≡ leaf)
  settled_told disk is_second leaf image is told =
      let same = told_same is.image image is.told told in
      let P : Image → Type 0 = λ i. (is_second_of i ≡ is_second) × (i (leaf_of is_second) ≡ leaf) × (picked_leaf i ≡ leaf) in
      subst P same (is.picked, is.bytes, picked_at is.image is_second is.picked ∙ is.bytes)

  -- and so is what a crash leaves
  pub settled_left : (disk : D) (is_second : Bool) (leaf : List ℕ) (c : Image) → IsSettled M disk is_second leaf → M.may_leave disk c → (is_second_of c ≡ is_second) × (c (leaf_of is_second) ≡ leaf) × (picked_leaf c ≡ leaf)
  settled_left disk is_second leaf c is left =
      let picked : is_second_of c ≡ is_second = ap picks (is.selector_only c left) ∙ is.picked in
      let bytes : c (leaf_of is_second) ≡ leaf = is.leaf_only c left ∙ is.bytes in
      (picked, bytes, picked_at c is_second picked ∙ bytes)

  -- it stays where nothing is written
  pub settled_within : (old new : D) (is_second : Bool) (leaf : List ℕ) → M.seen new ≡ M.seen old → Within (M.may_leave old) (M.may_leave new) → IsSettled M old is_second leaf → IsSettled M new is_second leaf
  settled_within old new is_second leaf same within is = record {
    image = is.image;
    told = same ∙ is.told;
    picked = is.picked;
    bytes = is.bytes;
    selector_only = only_within Selector is.image (M.may_leave old) (M.may_leave new) within is.selector_only;
    leaf_only = only_within (leaf_of is_second) is.image (M.may_leave old) (M.may_leave new) within is.leaf_only;
  }

  -- a durable write to the picked leaf
  pub settled_written : (old new : D) (part : Part) (is_second : Bool) (front rest bytes : List ℕ) → part ≡ leaf_of is_second
      → Goes (On part (IsOverwritten (length front) bytes)) (M.seen old) (M.seen new) → is_some (M.seen new) ≡ is_some (M.seen old)
      → Follows (On part (Torn (length front) (length bytes))) (M.may_leave old) (M.may_leave new) → Told (M.seen new) (λ b. IsOnly part b (M.may_leave new))
      → IsSettled M old is_second (front ++ rest) → IsSettled M new is_second (front ++ bytes ++ drop (length bytes) rest)
  settled_written old new part is_second front rest bytes is_part goes tells crash durable is =
      let P : Part → Type 0 = λ p. Selector ≢ p in
      let other : Selector ≢ part = subst P (sym is_part) (leaf_not_selector is_second) in
      let told = tells_some (M.seen new) (tells ∙ ap (λ (o : Option Image). is_some o) is.told) in
      let step = goes is.image told.0 is.told told.1 in
      let here : told.0 (leaf_of is_second) ≡ front ++ bytes ++ drop (length bytes) rest =
      ap told.0 (sym is_part) ∙ overwritten_behind front rest bytes (told.0 part) (let Q : List ℕ → Type 0 = λ l. IsOverwritten (length front) bytes l (told.0 part) in subst Q (ap is.image is_part ∙ is.bytes) step.there) in
      record {
        image = told.0;
        told = told.1;
        picked = ap picks (step.elsewhere Selector other) ∙ is.picked;
        bytes = here;
        selector_only = λ c left. only_elsewhere Selector part (Torn (length front) (length bytes)) is.image (M.may_leave old) (M.may_leave new) other crash is.selector_only c left ∙ sym (step.elsewhere Selector other);
        leaf_only = λ c left. ap c (sym is_part) ∙ durable told.0 told.1 c left ∙ ap told.0 is_part;
      }

  -- and what a crash leaves in the middle of it
  pub torn_picked : (old : D) (part : Part) (is_second : Bool) (at n : ℕ) (leaf : List ℕ) (c : Image) → part ≡ leaf_of is_second → IsSettled M old is_second leaf → TornFrom part at n (M.may_leave old) c → Torn at n leaf (picked_leaf c)
  torn_picked old part is_second at n leaf c is_part is from =
      let was = settled_left old is_second leaf from.0 is from.1 in
      let P : List ℕ → Type 0 = λ l. Torn at n l (picked_leaf c) in
      subst P was.2 (picked_on part is_second (Torn at n) from.0 c is_part was.0 from.2).1
