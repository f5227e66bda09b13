-- The calls that append a record.
use Rattle.std.proofs.Common.{◌≡◌, inl, inr, ℕ, ◌+◌, Bool, true, List, [], ◌∷◌, ◌++◌, drop, sym, subst}
use Rattle.std.proofs.lemmas.Bool.{false≢true}
use Rattle.as4_disk.specs.declared.disk.Disk.{Ghosts as DiskMeaning}
use Rattle.as4_disk.specs.Runs.{MakesAll}
use Rattle.as4_disk.specs.declared.change.Change.{Change}
use Rattle.as4_disk.specs.declared.change.Change.TheVariants.{Synced, Wrote}
use Rattle.as4_disk.specs.declared.part.Part.{Part}
use Rattle.journal.specs.Calls.{record_calls}
use Rattle.journal.specs.Leaf.{frame_of}

-- the calls of some changes were all made, and then those of others
calls_then : {D : Type 0} (M : DiskMeaning D) (first others : List Change) (old mid new : D) (ok : Bool) → MakesAll M.makes first old mid true → MakesAll M.makes others mid new ok → MakesAll M.makes (first ++ others) old new ok
calls_then M [] others old mid new ok done next = subst (λ d. MakesAll M.makes others d new ok) done.0 next
calls_then M (change ∷ first) others old mid new ok (inl failed) next = absurd (false≢true (sym failed.1))
calls_then M (change ∷ first) others old mid new ok (inr more) next =
    inr (more.0, more.1, calls_then M first others more.0 mid new ok more.2 next)

-- all of the record but its gate is on the disk, and then its gate is opened
pub record_made : {D : Type 0} (M : DiskMeaning D) (part : Part) (gate : ℕ) (body tail : List ℕ) (old mid new : D) (ok : Bool) → tail ≡ drop 1 (frame_of body)
    → MakesAll M.makes (Wrote part (gate + 1) tail ∷ Synced part ∷ []) old mid true → MakesAll M.makes (Wrote part gate (1 ∷ []) ∷ Synced part ∷ []) mid new ok → MakesAll M.makes (record_calls part gate body) old new ok
record_made M part gate body tail old mid new ok is_tail first second =
    let P : List ℕ → Type 0 = λ l. MakesAll M.makes (Wrote part (gate + 1) l ∷ Synced part ∷ Wrote part gate (1 ∷ []) ∷ Synced part ∷ []) old new ok in
    subst P is_tail (calls_then M (Wrote part (gate + 1) tail ∷ Synced part ∷ []) (Wrote part gate (1 ∷ []) ∷ Synced part ∷ []) old mid new ok first second)
