-- Three ways in which a crash may leave a part after changes: as it was synced last, as it reads, and with 0x37 in the place
-- of each byte that may be anything, at the greatest length.
use Rattle.std.specs.Prelude.{◌≡◌, ℕ, ◌≤◌, if◌then◌else◌, List, [], ◌∷◌, length, take, drop, replicate}
use Rattle.as4_disk.specs.declared.part.Part.{Part}
use Rattle.as4_disk.specs.declared.change.Change.{Change}
use Rattle.as4_disk.specs.declared.change.Change.TheVariants.{Wrote, WasCut, Synced}
use Rattle.as4_disk.specs.declared.change.Pick.{Pick}
use Rattle.as4_disk.specs.declared.change.Pick.TheVariants.{Old, New, Other}
use Rattle.as4_disk.specs.Bytes.{overwritten}
use Rattle.as4_disk.specs.Image.{same_part}
use Rattle.as4_disk.specs.Changes.{part_of, done, bytes_after, bytes_by}

-- What a pick makes of a change that isn't synced: nothing of it, all of it, or 0x37 in the place of each byte written.
abbrev pub left_by : Pick → Change → List ℕ → List ℕ
left_by Old change left = left
left_by New change left = done change left
left_by Other (Wrote part at bytes) left = overwritten at (replicate (length bytes) 0x37) left
left_by Other (WasCut part len) left = left
left_by Other (Synced part) left = left

abbrev pub left_after : Pick → Part → Change → List ℕ → List ℕ
left_after pick q change left = if same_part (part_of change) q then left_by pick change left else left

-- The bytes of a part that a crash leaves by a pick after a change, where it left these before and a read gave those.
abbrev pub pick_after : Pick → Part → Change → List ℕ → List ℕ → List ℕ
pick_after pick q (Synced part) read left = if same_part part q then read else left
pick_after pick q change read left = left_after pick q change left

-- and after all of these
unfoldable pub pick_by : Pick → Part → List Change → List ℕ → List ℕ → List ℕ
pick_by pick q [] read left = left
pick_by pick q (change ∷ changes) read left = pick_by pick q changes (bytes_after q change read) (pick_after pick q change read left)

-- the same from changes none of which is a sync of the part
unfoldable pub left_by_all : Pick → Part → List Change → List ℕ → List ℕ
left_by_all pick q [] left = left
left_by_all pick q (change ∷ changes) left = left_by_all pick q changes (left_after pick q change left)

-- The first so many changes end with the last sync of the part: what a crash leaves of it comes from what they made and
-- from the changes behind them, none of which is a sync of it.
abbrev pub EndWithLastSync : Part → List Change → ℕ → Type 0
EndWithLastSync q changes count = (count ≤ length changes)
    × ((pick : Pick) (first : List ℕ) → pick_by pick q changes first first ≡ left_by_all pick q (drop count changes) (bytes_by q (take count changes) first))
