-- What a crash leaves of a disk in memory that stopped while a record was put there.
use Rattle.std.specs.Prelude.{if◌then◌else◌}
use Rattle.std.proofs.Common.{◌≡◌, ◌≢◌, ◌⊎◌, ⊎_elim, ℕ, zero, suc, ◌+◌, ◌<◌, ◌≤◌, List, [], ◌∷◌, ◌++◌, drop, length, refl, sym, ◌∙◌, ap, subst, arith, append_assoc}
use Rattle.as4_disk.specs.Bytes.{IsOverwritten, Torn, overwritten}
use Rattle.as4_disk.specs.ByteLaws.{torn_whole}
use Rattle.as4_disk.specs.Changes.{bytes_after, bytes_by}
use Rattle.as4_disk.specs.Files.{image_of}
use Rattle.as4_disk.specs.Image.{Image, On, same_part}
use Rattle.as4_disk.specs.Memory.{DiskState, MayLeave, picked, reads, stopped_at}
use Rattle.as4_disk.specs.MemoryLaws.{if_other, if_same, picked_left, pick_by-New}
use Rattle.as4_disk.specs.Picks.{left_by, pick_after, pick_by}
use Rattle.as4_disk.specs.declared.change.Change.{Change}
use Rattle.as4_disk.specs.declared.change.Change.TheVariants.{Synced, Wrote}
use Rattle.as4_disk.specs.declared.change.Pick.{Pick}
use Rattle.as4_disk.specs.declared.change.Pick.TheVariants.{New, Old, Other}
use Rattle.as4_disk.specs.declared.files.Files.{Files}
use Rattle.as4_disk.specs.declared.part.Part.{Part}
use Rattle.as4_disk.specs.declared.part.Part.TheVariants.{Leaf0, Leaf1, Selector}
use Rattle.as4_disk.proofs.MemoryLemmas.{bytes_by-push, grew_left}
use Rattle.msh_recovery.specs.Opens.{IsAt, IsOld, OpensWith}
use Rattle.msh_recovery.specs.Puts.{Puts}
use Rattle.msh_recovery.proofs.OpenLemmas.{opens_weaker}
use Rattle.exchange_model.specs.End.{End}
use Rattle.journal.specs.Calls.{record_calls}
use Rattle.journal.specs.Leaf.{frame_of}
use Rattle.journal.specs.Store.{picked_leaf}

pick_by-push : (pick : Pick) (q : Part) (changes : List Change) (change : Change) (read left : List ℕ) → pick_by pick q (changes ++ change ∷ []) read left ≡ pick_after pick q change (bytes_by q changes read) (pick_by pick q changes read left)
unfolding pick_by bytes_by
pick_by-push pick q [] change read left = refl
pick_by-push pick q (first ∷ changes) change read left = pick_by-push pick q changes change (bytes_after q first read) (pick_after pick q first read left)

-- one part as it reads, the others by a pick
abbrev choice : Pick → Part → Part → Pick
choice pick part q = if same_part part q then New else pick

choice_same : (pick : Pick) (part : Part) → choice pick part part ≡ New
choice_same pick Selector = refl
choice_same pick Leaf0 = refl
choice_same pick Leaf1 = refl

choice_other : (pick : Pick) (part q : Part) → q ≢ part → choice pick part q ≡ pick
choice_other pick Selector Selector other = absurd (other refl)
choice_other pick Selector Leaf0 other = refl
choice_other pick Selector Leaf1 other = refl
choice_other pick Leaf0 Selector other = refl
choice_other pick Leaf0 Leaf0 other = absurd (other refl)
choice_other pick Leaf0 Leaf1 other = refl
choice_other pick Leaf1 Selector other = refl
choice_other pick Leaf1 Leaf0 other = refl
choice_other pick Leaf1 Leaf1 other = absurd (other refl)

module _ (old new : DiskState) (part : Part) (gate : ℕ) (tail : List ℕ) (end next : End) (puts : Puts (MayLeave old) part gate tail end next) (first : new.first ≡ old.first) where
  abbrev behind : Change
  behind = Wrote part (gate + 1) tail

  abbrev gated : Change
  gated = Wrote part gate (1 ∷ [])

  -- the gate isn't written
  pub half : (pick : Pick) → new.changes ≡ old.changes ++ behind ∷ [] → IsAt (picked pick new) end
  half pick is =
      let left = grew_left behind old new (first, is) (picked pick new) (picked_left new (λ q. pick)) in
      puts.before left.0 (picked pick new) left.1 left.2

  module _ (is : new.changes ≡ old.changes ++ behind ∷ Synced part ∷ gated ∷ []) where
    abbrev before : List Change
    before = (old.changes ++ behind ∷ []) ++ Synced part ∷ []

    one_by_one : new.changes ≡ before ++ gated ∷ []
    one_by_one =
        is ∙ sym (append_assoc (old.changes ++ behind ∷ []) (Synced part ∷ []) (gated ∷ []) ∙ append_assoc old.changes (behind ∷ []) (Synced part ∷ gated ∷ []))

    picked_is : (pick : Pick) (q : Part) → picked pick new q ≡ pick_after pick q gated (bytes_by q before (image_of old.first q)) (pick_by pick q before (image_of old.first q) (image_of old.first q))
    picked_is pick q =
        ap (λ (f : Files). pick_by pick q new.changes (image_of f q) (image_of f q)) first
        ∙ ap (λ (l : List Change). pick_by pick q l (image_of old.first q) (image_of old.first q)) one_by_one
        ∙ pick_by-push pick q before gated (image_of old.first q) (image_of old.first q)

    before_is : (pick : Pick) (q : Part) → pick_by pick q before (image_of old.first q) (image_of old.first q)
        ≡ pick_after pick q (Synced part) (bytes_by q (old.changes ++ behind ∷ []) (image_of old.first q)) (pick_by pick q (old.changes ++ behind ∷ []) (image_of old.first q) (image_of old.first q))
    before_is pick q = pick_by-push pick q (old.changes ++ behind ∷ []) (Synced part) (image_of old.first q) (image_of old.first q)

    -- the part that was synced reads so
    synced : List ℕ
    synced = overwritten (gate + 1) tail (reads old part)

    before_there : (pick : Pick) → pick_by pick part before (image_of old.first part) (image_of old.first part) ≡ synced
    unfolding synced
    before_there pick =
        before_is pick part ∙ if_same part _ _ ∙ bytes_by-push part old.changes behind (image_of old.first part) ∙ if_same part _ _

    there : (pick : Pick) → picked pick new part ≡ left_by pick gated synced
    there pick = picked_is pick part ∙ if_same part _ _ ∙ ap (left_by pick gated) (before_there pick)

    elsewhere : (pick : Pick) (q : Part) → q ≢ part → picked pick new q ≡ picked pick old q
    elsewhere pick q other =
        picked_is pick q ∙ if_other part q other _ _ ∙ before_is pick q ∙ if_other part q other _ _
        ∙ pick_by-push pick q old.changes behind (image_of old.first q) (image_of old.first q) ∙ if_other part q other _ _

    -- before the record the part read as it did, and the others are as picked
    left : Pick → Image
    left pick q = pick_by (choice pick part q) q old.changes (image_of old.first q) (image_of old.first q)

    left_may : (pick : Pick) → MayLeave old (left pick)
    unfolding left
    left_may pick = picked_left old (choice pick part)

    left_there : (pick : Pick) → left pick part ≡ reads old part
    unfolding left
    left_there pick =
        ap (λ (p : Pick). pick_by p part old.changes (image_of old.first part) (image_of old.first part)) (choice_same pick part)
        ∙ pick_by-New part old.changes (image_of old.first part) (image_of old.first part) refl

    left_elsewhere : (pick : Pick) (q : Part) → q ≢ part → left pick q ≡ picked pick old q
    unfolding left
    left_elsewhere pick q other =
        ap (λ (p : Pick). pick_by p q old.changes (image_of old.first q) (image_of old.first q)) (choice_other pick part q other)

    -- and then the bytes behind the gate were written
    mid : Pick → Image
    mid pick q = if same_part part q then synced else left pick q

    written : (pick : Pick) → On part (IsOverwritten (gate + 1) tail) (left pick) (mid pick)
    unfolding mid synced
    written pick = record {
      there = if_same part _ _ ∙ ap (λ (l : List ℕ). overwritten (gate + 1) tail l) (sym (left_there pick));
      elsewhere = λ q other. if_other part q other _ _;
    }

    gates : (pick : Pick) (byte : ℕ) → left_by pick gated synced ≡ overwritten gate (byte ∷ []) synced → On part (IsOverwritten gate (byte ∷ [])) (mid pick) (picked pick new)
    unfolding mid
    gates pick byte is_gate = record {
      there = there pick ∙ is_gate ∙ ap (λ (l : List ℕ). overwritten gate (byte ∷ []) l) (sym (if_same part _ _));
      elsewhere = λ q other. elsewhere pick q other ∙ sym (if_other part q other _ _ ∙ left_elsewhere pick q other);
    }

    pub new_stands : IsAt (picked New new) next
    new_stands = puts.opened (left New) (mid New) (picked New new) (left_may New) (written New) (gates New 1 refl)

    pub other_pends : OpensWith (picked Other new) end (λ n. n ≡ next) × (IsOld (picked_leaf (picked Other new)) → ⊥)
    other_pends =
        let byte : ℕ = 55 in
        puts.closed byte (left Other) (mid Other) (picked Other new) (λ same. omega (arith, same)) (left_may Other) (written Other) (gates Other byte refl)

    pub old_stays : IsAt (picked Old new) end
    unfolding synced
    old_stays = puts.before (left Old) (picked Old new) (left_may Old) record {
      there = subst (λ (l : List ℕ). Torn (gate + 1) (length tail) (left Old part) l)
          (ap (λ (l : List ℕ). overwritten (gate + 1) tail l) (left_there Old) ∙ sym (there Old))
          (torn_whole (gate + 1) tail (left Old part));
      elsewhere = λ q other. elsewhere Old q other ∙ sym (left_elsewhere Old q other);
    }

-- ---- which call it was

-- the record's step stands where its gate was written and the crash left it so
abbrev Leaves : ℕ → Pick → Image → End → End → Type 0
Leaves call pick image end next = (3 ≤ call → pick ≡ New → IsAt image next)
    × ((call < 3) ⊎ (pick ≢ New) → OpensWith image end (λ n. n ≡ next) × (IsOld (picked_leaf image) → ⊥))

at_opens : (image : Image) (end next : End) → IsAt image end → OpensWith image end (λ n. n ≡ next) × (IsOld (picked_leaf image) → ⊥)
at_opens image end next here = (opens_weaker (λ n. ⊥) (λ n. n ≡ next) image end (λ n none. absurd none) here.0, here.1)

module _ (old new : DiskState) (part : Part) (gate : ℕ) (body : List ℕ) (end next : End) (puts : Puts (MayLeave old) part gate (drop 1 (frame_of body)) end next) (first : new.first ≡ old.first) where
  early : (call : ℕ) (pick : Pick) → call < 3 → new.changes ≡ old.changes ++ Wrote part (gate + 1) (drop 1 (frame_of body)) ∷ [] → Leaves call pick (picked pick new) end next
  early call pick less is = (
    λ late. absurd (omega (arith, less, late)),
    λ either. at_opens (picked pick new) end next (half old new part gate (drop 1 (frame_of body)) end next puts first pick is),
  )

  late : (call : ℕ) (pick : Pick) → 3 ≤ call → new.changes ≡ old.changes ++ Wrote part (gate + 1) (drop 1 (frame_of body)) ∷ Synced part ∷ Wrote part gate (1 ∷ []) ∷ [] → Leaves call pick (picked pick new) end next
  late call New more is = (
    λ le new_pick. new_stands old new part gate (drop 1 (frame_of body)) end next puts first is,
    λ either. ⊎_elim (λ (less : call < 3). absurd (omega (arith, less, more))) (λ (other : New ≢ New). absurd (other refl)) either,
  )
  late call Old more is = (
    λ le new_pick. absurd (cc),
    λ either. at_opens (picked Old new) end next (old_stays old new part gate (drop 1 (frame_of body)) end next puts first is),
  )
  late call Other more is = (
    λ le new_pick. absurd (cc),
    λ either. other_pends old new part gate (drop 1 (frame_of body)) end next puts first is,
  )

  pub leaves : (call : ℕ) (pick : Pick) → 1 ≤ call → call ≤ 4 → new.changes ≡ old.changes ++ stopped_at call (record_calls part gate body) → Leaves call pick (picked pick new) end next
  unfolding stopped_at
  leaves zero pick some few is = absurd (omega (arith, some))
  leaves (suc zero) pick some few is = early 1 pick (omega arith) is
  leaves (suc (suc zero)) pick some few is = early 2 pick (omega arith) is
  leaves (suc (suc (suc zero))) pick some few is = late 3 pick (omega arith) is
  leaves (suc (suc (suc (suc zero)))) pick some few is = late 4 pick (omega arith) is
  leaves (suc (suc (suc (suc (suc n))))) pick some few is = absurd (omega (arith, few))
