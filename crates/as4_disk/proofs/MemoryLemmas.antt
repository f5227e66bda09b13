-- A call of a disk in memory: what it reads and what a crash leaves afterwards.
use Rattle.std.proofs.Common.{◌≡◌, ◌⊎◌, inl, inr, ⊎_elim, ℕ, ◌+◌, ◌<◌, ◌≤◌, List, [], ◌∷◌, ◌++◌, length, take, Option, None, Some, Result, Ok, Err, refl, sym, ◌∙◌, ap, subst, arith, length-append}
use Rattle.std.proofs.lemmas.List.{take_all, take-append-le}
use Rattle.std.proofs.lemmas.Bool.{cases_lt}
use Rattle.std.specs.Prelude.{Bool, true, false, if◌then◌else◌, IsSome, IsNone, is_ok, unwrap_or, OnOk}
use Rattle.as4_flow.specs.Flow.{Told}
use Rattle.as4_disk.specs.declared.part.Part.{Part}
use Rattle.as4_disk.specs.declared.files.Files.{Files}
use Rattle.as4_disk.specs.declared.change.Change.{Change}
use Rattle.as4_disk.specs.declared.change.Change.TheVariants.{Wrote, WasCut, Synced}
use Rattle.as4_disk.specs.Bytes.{IsOverwritten, Torn, IsCut, TornCut}
use Rattle.as4_disk.specs.ByteLaws.{cut_same}
use Rattle.as4_disk.specs.Runs.{Goes, Follows, Within, Elapses}
use Rattle.as4_disk.specs.Image.{Image, same_part, On, IsOnly, KeepsOthers}
use Rattle.as4_disk.specs.Files.{image_of}
use Rattle.as4_disk.specs.Changes.{bytes_after, bytes_by, is_sync, LeftBy, LeftByAll, LeftOf, LeftSince}
use Rattle.as4_disk.specs.Memory.{DiskState, reads, MayLeave, MakesChange, called, changed, failed, halted}
use Rattle.as4_disk.specs.MemoryLaws.{if_same, if_other, if_either, reads_now_of}
use Rattle.as4_disk.proofs.ImageLemmas.{torn_nothing}

pub bytes_by-push : (q : Part) (changes : List Change) (change : Change) (old : List ℕ) → bytes_by q (changes ++ change ∷ []) old ≡ bytes_after q change (bytes_by q changes old)
unfolding bytes_by
bytes_by-push q [] change old = refl
bytes_by-push q (first ∷ changes) change old = bytes_by-push q changes change (bytes_after q first old)

pub bytes_by-nil : (q : Part) (old : List ℕ) → bytes_by q [] old ≡ old
unfolding bytes_by
bytes_by-nil q old = refl

-- before the first change there is one image
pub LeftOf-nil : (first : Files) (c : Image) → LeftOf first [] c → c ≡ image_of first
unfolding LeftOf LeftByAll
LeftOf-nil first c left = left

-- what is read is what the changes give, after one more change too, where the first files were kept
pub held_after : (first kept : Option Files) (files later : Files) (changes after : List Change) (change : Change) → ((q : Part) → image_of files q ≡ bytes_by q changes (image_of (unwrap_or first files) q)) → IsSome kept → unwrap_or kept files ≡ unwrap_or first files → ((q : Part) → image_of later q ≡ bytes_after q change (image_of files q)) → after ≡ changes ++ change ∷ [] → ((q : Part) → image_of later q ≡ bytes_by q after (image_of (unwrap_or kept later) q)) × (IsNone kept → after ≡ [])
held_after first None files later changes after change held is_kept same is_after pushed = absurd (cc)
held_after first (Some kept) files later changes after change held is_kept same is_after pushed = (
  λ q.
      is_after q
      ∙ ap (λ (l : List ℕ). bytes_after q change l) (held q ∙ ap (λ (was : Files). bytes_by q changes (image_of was q)) (sym same))
      ∙ sym (bytes_by-push q changes change (image_of kept q))
      ∙ ap (λ (all : List Change). bytes_by q all (image_of kept q)) (sym pushed),
  λ none. absurd (cc),
)

LeftByAll-push : (changes : List Change) (change : Change) (read : Image) (outcomes : Image → Type 0) (c : Image) → LeftByAll (changes ++ change ∷ []) read outcomes c → LeftBy change (λ q. bytes_by q changes (read q)) (LeftByAll changes read outcomes) c
unfolding LeftByAll bytes_by
LeftByAll-push [] change read outcomes c left = left
LeftByAll-push (first ∷ changes) change read outcomes c left =
    LeftByAll-push changes change (λ q. bytes_after q first (read q)) (LeftBy first read outcomes) c left

LeftOf-push : (first : Files) (changes : List Change) (change : Change) (c : Image) → LeftOf first (changes ++ change ∷ []) c → LeftBy change (λ q. bytes_by q changes (image_of first q)) (LeftOf first changes) c
unfolding LeftOf
LeftOf-push first changes change c left = LeftByAll-push changes change (image_of first) (λ d. d ≡ image_of first) c left

push-LeftByAll : (changes : List Change) (change : Change) (read : Image) (outcomes : Image → Type 0) (c : Image) → LeftBy change (λ q. bytes_by q changes (read q)) (LeftByAll changes read outcomes) c → LeftByAll (changes ++ change ∷ []) read outcomes c
unfolding LeftByAll bytes_by
push-LeftByAll [] change read outcomes c left = left
push-LeftByAll (first ∷ changes) change read outcomes c left =
    push-LeftByAll changes change (λ q. bytes_after q first (read q)) (LeftBy first read outcomes) c left

-- whatever a change may leave is left
pub left_by_change : (disk : DiskState) (change : Change) (c : Image) → LeftBy change (reads disk) (MayLeave disk) c → MayLeave (changed change disk) c
unfolding LeftOf
left_by_change disk change c left = push-LeftByAll disk.changes change (image_of disk.first) (λ d. d ≡ image_of disk.first) c left

elapses_push : (first : Files) (changes : List Change) (change : Change) → Elapses (length changes) (length (changes ++ change ∷ [])) (LeftSince first changes) (LeftSince first (changes ++ change ∷ [])) (LeftOf first (changes ++ change ∷ []))
unfolding LeftSince
elapses_push first changes change = record {
  later = omega (arith, length-append changes (change ∷ []));
  nothing_else = λ t c le left.
      ⊎_elim
      (λ (past : left.0 < length changes + 1). inl (left.0, left.1, omega arith, was left.0 c (omega arith) left.3))
      (λ (now : length changes + 1 ≤ left.0).
      inr (subst (λ (l : List Change). LeftOf first l c) (take_all left.0 (changes ++ change ∷ []) (omega (arith, length-append changes (change ∷ [])))) left.3))
      (cases_lt left.0 (length changes + 1));
  keeps = λ t c le left. (
    left.0,
    left.1,
    omega (arith, left.2, length-append changes (change ∷ [])),
    subst (λ (l : List Change). LeftOf first l c) (sym (take-append-le left.0 changes (change ∷ []) left.2)) left.3,
  );
}
  where
    was : (k : ℕ) (c : Image) → k ≤ length changes → LeftOf first (take k (changes ++ change ∷ [])) c → LeftOf first (take k changes) c
    was k c le left = subst (λ (l : List Change). LeftOf first l c) (take-append-le k changes (change ∷ []) le) left

elapses_same : (first : Files) (changes : List Change) → Elapses (length changes) (length changes) (LeftSince first changes) (LeftSince first changes) (LeftOf first changes)
elapses_same first changes = record {
  later = omega arith;
  nothing_else = λ t c le left. inl left;
  keeps = λ t c le left. left;
}

-- this part of the first image, and the others of the second
abbrev mixed : Part → Image → Image → Image
mixed part c d q = if same_part part q then c q else d q

-- what became of a part goes into the mix with it
on_mixed : (part p : Part) (step : List ℕ → List ℕ → Type 0) (b c d e : Image) → On p step b d → On p step c e → On p step (mixed part b c) (mixed part d e)
on_mixed part p step b c d e first second = record {
  there = elim (same_part part p) as (λ (k : Bool). step (if k then b p else c p) (if k then d p else e p)) [ true ↦ first.there | false ↦ second.there ];
  elsewhere = λ q other. elim (same_part part q) as (λ (k : Bool). (if k then d q else e q) ≡ (if k then b q else c q)) [ true ↦ first.elsewhere q other | false ↦ second.elsewhere q other ];
}

-- two outcomes can be mixed by parts
Mixes : Part → (Image → Type 0) → Type 0
Mixes part outcomes = (c d : Image) → outcomes c → outcomes d → outcomes (mixed part c d)

mixes_by : (part : Part) (change : Change) (read : Image) (outcomes : Image → Type 0) → Mixes part outcomes → Mixes part (LeftBy change read outcomes)
unfolding Mixes
mixes_by part (Wrote p at bytes) read outcomes mixes c d (b, left, on) (e, left_too, on_too) =
    (mixed part b e, mixes b e left left_too, on_mixed part p (Torn at (length bytes)) b e c d on on_too)
mixes_by part (WasCut p len) read outcomes mixes c d (b, left, on) (e, left_too, on_too) =
    (mixed part b e, mixes b e left left_too, on_mixed part p (TornCut len) b e c d on on_too)
mixes_by part (Synced p) read outcomes mixes c d (left, same) (left_too, same_too) = (
  mixes c d left left_too,
  elim (same_part part p) as (λ (k : Bool). (if k then c p else d p) ≡ read p) [ true ↦ same | false ↦ same_too ],
)

mixes_by_all : (part : Part) (changes : List Change) (read : Image) (outcomes : Image → Type 0) → Mixes part outcomes → Mixes part (LeftByAll changes read outcomes)
unfolding LeftByAll
mixes_by_all part [] read outcomes mixes = mixes
mixes_by_all part (change ∷ changes) read outcomes mixes =
    mixes_by_all part changes (λ q. bytes_after q change (read q)) (LeftBy change read outcomes) (mixes_by part change read outcomes mixes)

mixes_first : (part : Part) (first : Image) → Mixes part (λ d. d ≡ first)
unfolding Mixes
mixes_first part first c d is is_too =
    (λ i q. if same_part part q then is i q else is_too i q) ∙ (λ i q. if_either (same_part part q) (first q) i)

-- a crash may leave this part of one image and the others of another
left_mixed : (disk : DiskState) (part : Part) (c d : Image) → MayLeave disk c → MayLeave disk d → MayLeave disk (mixed part c d)
unfolding LeftOf Mixes
left_mixed disk part = mixes_by_all part disk.changes (image_of disk.first) (λ d. d ≡ image_of disk.first) (mixes_first part (image_of disk.first))

-- no change was made
abbrev pub Kept : DiskState → DiskState → Type 0
Kept old new = (new.first ≡ old.first) × (new.changes ≡ old.changes)

-- this one was
abbrev pub Grew : Change → DiskState → DiskState → Type 0
Grew change old new = (new.first ≡ old.first) × (new.changes ≡ old.changes ++ change ∷ [])

along : (P : Files → List Change → Type 0) (first later : Files) (changes after : List Change) → later ≡ first → after ≡ changes → P first changes → P later after
along P first later changes after is_first is_after holds =
    subst (λ (l : List Change). P later l) (sym is_after) (subst (λ (f : Files). P f changes) (sym is_first) holds)

module _ (change : Change) (old new : DiskState) where
  pub went_time : Kept old new ⊎ Grew change old new → Elapses (length old.changes) (length new.changes) (LeftSince old.first old.changes) (LeftSince new.first new.changes) (MayLeave new)
  went_time (inl kept) =
      along (λ first changes. Elapses (length old.changes) (length changes) (LeftSince old.first old.changes) (LeftSince first changes) (LeftOf first changes)) _ _ _ _ kept.0 kept.1
      (elapses_same old.first old.changes)
  went_time (inr grew) =
      along (λ first changes. Elapses (length old.changes) (length changes) (LeftSince old.first old.changes) (LeftSince first changes) (LeftOf first changes)) _ _ _ _ grew.0 grew.1
      (elapses_push old.first old.changes change)

  pub grew_left : Grew change old new → (c : Image) → MayLeave new c → LeftBy change (reads old) (MayLeave old) c
  grew_left grew c left =
      LeftOf-push old.first old.changes change c (along (λ first changes. LeftOf first changes c) _ _ _ _ (sym grew.0) (sym grew.1) left)

  pub kept_left : Kept old new → Within (MayLeave old) (MayLeave new)
  kept_left kept c left = along (λ first changes. LeftOf first changes c) _ _ _ _ (sym kept.0) (sym kept.1) left

  pub kept_reads : Kept old new → reads new ≡ reads old
  kept_reads kept = along (λ first changes. (λ q. bytes_by q changes (image_of first q)) ≡ reads old) _ _ _ _ kept.0 kept.1 refl

  pub grew_reads : Grew change old new → (q : Part) → reads new q ≡ bytes_after q change (reads old q)
  grew_reads grew q =
      along (λ first changes. bytes_by q changes (image_of first q) ≡ bytes_after q change (reads old q)) _ _ _ _ grew.0 grew.1
      (bytes_by-push q old.changes change (image_of old.first q))

  halted_goes : new ≡ failed (halted change (called old)) → Kept old new ⊎ Grew change old new
  halted_goes is = elim (is_sync change) as (λ (b : Bool). new ≡ failed (if b then called old else changed change (called old)) → Kept old new ⊎ Grew change old new) [
    | true ↦ λ same. inl (ap (λ d. d.first) same, ap (λ d. d.changes) same)
    | false ↦ λ made. inr (ap (λ d. d.first) made, ap (λ d. d.changes) made)
  ] is

  -- a call that makes a change makes it or doesn't
  pub went : (ok : Bool) → MakesChange change old new ok → Kept old new ⊎ Grew change old new
  went true made = inr (ap (λ d. d.first) made.1, ap (λ d. d.changes) made.1)
  went false (inl fails) = inl (ap (λ d. d.first) fails.1, ap (λ d. d.changes) fails.1)
  went false (inr (inl stops)) = halted_goes stops.1
  went false (inr (inr starves)) = inl (ap (λ d. d.first) starves, ap (λ d. d.changes) starves)

  -- and where it answers Ok it has made it
  pub ok_grew : {T E : Type 0} (result : Result T E) → MakesChange change old new (is_ok result) → OnOk result (Grew change old new)
  ok_grew (Ok x) made = (ap (λ d. d.first) made.1, ap (λ d. d.changes) made.1)
  ok_grew (Err e) makes = tt

goes_by : (old new : DiskState) (part : Part) (step : List ℕ → List ℕ → Type 0) → On part step (reads old) (reads new) → Goes (On part step) (Some (reads old)) (Some (reads new))
goes_by old new part step on v w told_old told_new =
    let is_old : reads old ≡ v = cc in
    let is_new : reads new ≡ w = cc in
    subst (λ (x : Image). On part step x w) is_old (subst (λ (y : Image). On part step (reads old) y) is_new on)

module _ (part : Part) (old new : DiskState) where
  pub written_by : (at : ℕ) (bytes : List ℕ) → Grew (Wrote part at bytes) old new → Goes (On part (IsOverwritten at bytes)) (Some (reads old)) (Some (reads new))
  written_by at bytes grew =
      goes_by old new part (IsOverwritten at bytes) record {
        there = grew_reads (Wrote part at bytes) old new grew part ∙ if_same part _ _;
        elsewhere = λ q other. grew_reads (Wrote part at bytes) old new grew q ∙ if_other part q other _ _;
      }

  pub cut_by : (len : ℕ) → Grew (WasCut part len) old new → Goes (On part (IsCut len)) (Some (reads old)) (Some (reads new))
  cut_by len grew =
      goes_by old new part (IsCut len) record {
        there = grew_reads (WasCut part len) old new grew part ∙ if_same part _ _;
        elsewhere = λ q other. grew_reads (WasCut part len) old new grew q ∙ if_other part q other _ _;
      }

  pub written_crash : (at : ℕ) (bytes : List ℕ) → Kept old new ⊎ Grew (Wrote part at bytes) old new → Follows (On part (Torn at (length bytes))) (MayLeave old) (MayLeave new)
  written_crash at bytes (inl kept) c left =
      (c, kept_left (Wrote part at bytes) old new kept c left, torn_nothing part at (length bytes) c)
  written_crash at bytes (inr grew) c left = grew_left (Wrote part at bytes) old new grew c left

  pub cut_crash : (len : ℕ) → Kept old new ⊎ Grew (WasCut part len) old new → Follows (On part (TornCut len)) (MayLeave old) (MayLeave new)
  cut_crash len (inl kept) c left =
      (c, kept_left (WasCut part len) old new kept c left, record { there = cut_same len (c part); elsewhere = λ q other. refl })
  cut_crash len (inr grew) c left = grew_left (WasCut part len) old new grew c left

  pub synced_reads : Kept old new ⊎ Grew (Synced part) old new → Some (reads new) ≡ Some (reads old)
  synced_reads (inl kept) = ap Some (kept_reads (Synced part) old new kept)
  synced_reads (inr grew) = ap Some (λ i q. (grew_reads (Synced part) old new grew q ∙ if_either (same_part part q) (reads old q)) i)

  pub synced_crash : Kept old new ⊎ Grew (Synced part) old new → Within (MayLeave old) (MayLeave new)
  synced_crash (inl kept) c left = kept_left (Synced part) old new kept c left
  synced_crash (inr grew) c left = (grew_left (Synced part) old new grew c left).0

  pub synced_durable : Grew (Synced part) old new → Told (Some (reads old)) (λ b. IsOnly part b (MayLeave new))
  synced_durable grew b told c left =
      let is_old : reads old ≡ b = cc in
      (grew_left (Synced part) old new grew c left).1 ∙ ap (λ (image : Image). image part) is_old

  -- the others may be left as they might have been, with this part as it reads
  pub synced_others : Kept old new ⊎ Grew (Synced part) old new → KeepsOthers part (MayLeave old) (MayLeave new)
  synced_others (inl kept) before left =
      (before, along (λ first changes. LeftOf first changes before) _ _ _ _ kept.0 kept.1 left, λ q other. refl)
  synced_others (inr grew) before left =
      let now = mixed part (reads old) before in
      let may : MayLeave old now = left_mixed old part (reads old) before (reads_now_of old (reads old) refl) left in
      let added = left_by_change old (Synced part) now (may, if_same part _ _) in (
        now,
        along (λ first changes. LeftOf first changes now) _ _ _ _ grew.0 grew.1 added,
        λ q other. if_other part q other _ _,
      )
