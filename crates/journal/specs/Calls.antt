-- The device calls that append a record.
use Rattle.std.specs.Prelude.{ℕ, ◌+◌, List, [], ◌∷◌, drop}
use Rattle.as4_disk.specs.declared.change.Change.{Change}
use Rattle.as4_disk.specs.declared.change.Change.TheVariants.{Synced, Wrote}
use Rattle.as4_disk.specs.declared.part.Part.{Part}
use Rattle.journal.specs.Leaf.{frame_of}

-- all of the record but its gate is written behind the gate and synced, and then the gate is opened and synced
abbrev pub record_calls : Part → ℕ → List ℕ → List Change
record_calls part gate body =
    Wrote part (gate + 1) (drop 1 (frame_of body)) ∷ Synced part ∷ Wrote part gate (1 ∷ []) ∷ Synced part ∷ []
