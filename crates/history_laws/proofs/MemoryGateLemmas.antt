-- What a disk in memory may leave while a record is put on it: until its gate is written, only what came of its other bytes.
use Rattle.std.proofs.Common.{◌≡◌, ℕ, ◌+◌, ◌<◌, ◌≤◌, ◌⊎◌, inl, inr, List, [], ◌∷◌, Bool, true, false, length, take, length-append, arith, sym, ap, ◌∙◌, subst}
use Rattle.std.proofs.lemmas.Bool.{cases_lt, false≢true}
use Rattle.std.proofs.lemmas.List.{take-append-le, take_all}
use Rattle.as4_disk.proofs.ImageLemmas.{torn_nothing}
use Rattle.as4_disk.proofs.MemoryLemmas.{Grew, Kept, synced_crash, went, written_crash}
use Rattle.as4_disk.specs.Bytes.{Torn}
use Rattle.as4_disk.specs.Changes.{LeftOf}
use Rattle.as4_disk.specs.Image.{Image, On}
use Rattle.as4_disk.specs.Memory.{DiskState, MakesChange, MayLeave}
use Rattle.as4_disk.specs.Runs.{MakesAll}
use Rattle.as4_disk.specs.declared.change.Change.{Change}
use Rattle.as4_disk.specs.declared.change.Change.TheVariants.{Synced, Wrote}
use Rattle.as4_disk.specs.declared.part.Part.{Part}

-- the calls that put a record at this gate
abbrev pub puts_record : Part → ℕ → List ℕ → List Change
puts_record part gate tail = Wrote part (gate + 1) tail ∷ Synced part ∷ Wrote part gate (1 ∷ []) ∷ Synced part ∷ []

module _ (P : Image → Type 0) (start : ℕ) where
  -- from the moment `start` on, until two changes were made, a crash left what has P
  abbrev pub IsEarly : DiskState → Type 0
  IsEarly disk = (moment : ℕ) (c : Image) → start ≤ moment → moment ≤ start + 2 → LeftOf disk.first (take moment disk.changes) c → P c

  -- one call more
  early_on : (change : Change) (old new : DiskState) → Kept old new ⊎ Grew change old new → IsEarly old
      → (length old.changes < start + 2 → (c : Image) → MayLeave new c → P c) → IsEarly new
  early_on change old new (inl kept) early here moment c from to left = early moment c from to (rw (kept.0, kept.1) at left)
  early_on change old new (inr grew) early here moment c from to left = by_moment (cases_lt moment (length old.changes + 1))
    where
      longer : length new.changes ≡ length old.changes + 1
      longer = ap length grew.1 ∙ length-append old.changes (change ∷ [])

      by_moment : (moment < length old.changes + 1) ⊎ (length old.changes + 1 ≤ moment) → P c
      by_moment (inl sooner) =
          let within : moment ≤ length old.changes = omega arith in
          early moment c from to (rw (grew.0, grew.1, take-append-le moment old.changes (change ∷ []) within) at left)
      by_moment (inr later) =
          here (omega arith) c (subst (λ (l : List Change). LeftOf new.first l c) (take_all moment new.changes (omega (arith, longer))) left)

module _ (P : Image → Type 0) (part : Part) (gate : ℕ) (tail : List ℕ) where
  grown : (change : Change) (old new : DiskState) → MakesChange change old new true → length new.changes ≡ length old.changes + 1
  grown change old new made = ap (λ (d : DiskState). length d.changes) made.1 ∙ length-append old.changes (change ∷ [])

  -- no call was made
  early_start : (old : DiskState) → ((c d : Image) → MayLeave old c → On part (Torn (gate + 1) (length tail)) c d → P d)
      → IsEarly P (length old.changes) old
  early_start old torn moment c from to left =
      torn c c (subst (λ (l : List Change). LeftOf old.first l c) (take_all moment old.changes from) left) (torn_nothing part (gate + 1) (length tail) c)

  -- the bytes after the gate
  early_tail : (old new : DiskState) (ok : Bool) → MakesChange (Wrote part (gate + 1) tail) old new ok
      → ((c d : Image) → MayLeave old c → On part (Torn (gate + 1) (length tail)) c d → P d)
      → IsEarly P (length old.changes) new × ((c : Image) → MayLeave new c → P c)
  early_tail old new ok made torn =
      let goes = went (Wrote part (gate + 1) tail) old new ok made in
      let here : (c : Image) → MayLeave new c → P c =
      λ c left. let was = written_crash part old new (gate + 1) tail goes c left in torn was.0 c was.1 was.2 in
      (early_on P (length old.changes) (Wrote part (gate + 1) tail) old new goes (early_start old torn) (λ few. here), here)

  -- and their sync
  early_sync : (start : ℕ) (old new : DiskState) (ok : Bool) → MakesChange (Synced part) old new ok → IsEarly P start old
      → ((c : Image) → MayLeave old c → P c) → IsEarly P start new
  early_sync start old new ok made early was =
      let goes = went (Synced part) old new ok made in
      early_on P start (Synced part) old new goes early (λ few c left. was c (synced_crash part old new goes c left))

  -- and what comes later
  early_rest : (start : ℕ) (change : Change) (old new : DiskState) (ok : Bool) → MakesChange change old new ok → IsEarly P start old
      → start + 2 ≤ length old.changes → IsEarly P start new
  early_rest start change old new ok made early enough =
      early_on P start change old new (went change old new ok made) early (λ few c left. absurd (omega arith))

  pub before_gate : (old new : DiskState) (ok : Bool) → MakesAll MakesChange (puts_record part gate tail) old new ok
      → ((c d : Image) → MayLeave old c → On part (Torn (gate + 1) (length tail)) c d → P d) → IsEarly P (length old.changes) new
  before_gate old new ok (inl one) torn = (early_tail old new false one.0 torn).0
  before_gate old new ok (inr (a, one, inl two)) torn =
      let first = early_tail old a true one torn in
      early_sync (length old.changes) a new false two.0 first.0 first.1
  before_gate old new ok (inr (a, one, inr (b, two, rest))) torn =
      let first = early_tail old a true one torn in
      later (early_sync (length old.changes) a b true two first.0 first.1)
      (omega (arith, grown (Wrote part (gate + 1) tail) old a one, grown (Synced part) a b two)) rest
    where
      later : IsEarly P (length old.changes) b → length old.changes + 2 ≤ length b.changes
          → MakesAll MakesChange (Wrote part gate (1 ∷ []) ∷ Synced part ∷ []) b new ok → IsEarly P (length old.changes) new
      later early enough (inl three) = early_rest (length old.changes) (Wrote part gate (1 ∷ [])) b new false three.0 early enough
      later early enough (inr (d, three, last)) =
          let next = early_rest (length old.changes) (Wrote part gate (1 ∷ [])) b d true three early enough in
          let more : length old.changes + 2 ≤ length d.changes = omega (arith, grown (Wrote part gate (1 ∷ [])) b d three) in
          by_last next more last
        where
          by_last : IsEarly P (length old.changes) d → length old.changes + 2 ≤ length d.changes
              → MakesAll MakesChange (Synced part ∷ []) d new ok → IsEarly P (length old.changes) new
          by_last next more (inl four) = early_rest (length old.changes) (Synced part) d new false four.0 next more
          by_last next more (inr (e, four, end)) =
              subst (IsEarly P (length old.changes)) (sym end.0) (early_rest (length old.changes) (Synced part) d e true four next more)

  -- where each call answered Ok, there are four changes more
  pub four_changes : (old new : DiskState) → MakesAll MakesChange (puts_record part gate tail) old new true
      → length new.changes ≡ length old.changes + 4
  four_changes old new (inl (made, failed)) = absurd (false≢true (sym failed))
  four_changes old new (inr (a, one, inl (made, failed))) = absurd (false≢true (sym failed))
  four_changes old new (inr (a, one, inr (b, two, inl (made, failed)))) = absurd (false≢true (sym failed))
  four_changes old new (inr (a, one, inr (b, two, inr (d, three, inl (made, failed))))) = absurd (false≢true (sym failed))
  four_changes old new (inr (a, one, inr (b, two, inr (d, three, inr (e, four, end))))) =
      omega (
        arith,
        grown (Wrote part (gate + 1) tail) old a one,
        grown (Synced part) a b two,
        grown (Wrote part gate (1 ∷ [])) b d three,
        grown (Synced part) d e four,
        ap (λ (x : DiskState). length x.changes) end.0,
      )
