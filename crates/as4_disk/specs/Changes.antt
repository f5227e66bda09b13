-- What changes do to a disk in memory, the oldest first: to what a read gives, and to what a crash may leave.
use Rattle.std.specs.Prelude.{◌≡◌, ℕ, ◌≤◌, Bool, true, false, if◌then◌else◌, List, [], ◌∷◌, length, take}
use Rattle.as4_disk.specs.declared.part.Part.{Part}
use Rattle.as4_disk.specs.declared.files.Files.{Files}
use Rattle.as4_disk.specs.declared.change.Change.{Change}
use Rattle.as4_disk.specs.declared.change.Change.TheVariants.{Wrote, WasCut, Synced}
use Rattle.as4_disk.specs.Bytes.{overwritten, Torn, TornCut}
use Rattle.as4_disk.specs.Image.{Image, same_part, On}
use Rattle.as4_disk.specs.Files.{image_of}

-- the part that it changes
abbrev pub part_of : Change → Part
part_of (Wrote part at bytes) = part
part_of (WasCut part len) = part
part_of (Synced part) = part

abbrev pub is_sync : Change → Bool
is_sync (Synced part) = true
is_sync change = false

abbrev pub is_sync_of : Part → Change → Bool
is_sync_of q (Synced part) = same_part part q
is_sync_of q change = false

-- what it makes of the bytes of its part
abbrev pub done : Change → List ℕ → List ℕ
done (Wrote part at bytes) old = overwritten at bytes old
done (WasCut part len) old = take len old
done (Synced part) old = old

-- the bytes of a part after a change
abbrev pub bytes_after : Part → Change → List ℕ → List ℕ
bytes_after q change old = if same_part (part_of change) q then done change old else old

-- and after all of these
unfoldable pub bytes_by : Part → List Change → List ℕ → List ℕ
bytes_by q [] old = old
bytes_by q (change ∷ changes) old = bytes_by q changes (bytes_after q change old)

-- What a crash may leave after a change, where it might leave these outcomes before, and a read gave those bytes.
abbrev pub LeftBy : Change → Image → (Image → Type 0) → Image → Type 0
LeftBy (Wrote part at bytes) read outcomes c = (d : Image) × outcomes d × On part (Torn at (length bytes)) d c
LeftBy (WasCut part len) read outcomes c = (d : Image) × outcomes d × On part (TornCut len) d c
LeftBy (Synced part) read outcomes c = outcomes c × (c part ≡ read part)

-- and after all of these
unfoldable pub LeftByAll : List Change → Image → (Image → Type 0) → Image → Type 0
LeftByAll [] read outcomes c = outcomes c
LeftByAll (change ∷ changes) read outcomes c =
    LeftByAll changes (λ q. bytes_after q change (read q)) (LeftBy change read outcomes) c

-- what a crash may leave of a disk that was made with these files, after these changes
unfoldable pub LeftOf : Files → List Change → Image → Type 0
LeftOf first changes = LeftByAll changes (image_of first) (λ d. d ≡ image_of first)

-- at some moment since this one, a moment being a number of changes
unfoldable pub LeftSince : Files → List Change → ℕ → Image → Type 0
LeftSince first changes t c = (k : ℕ) × (t ≤ k) × (k ≤ length changes) × LeftOf first (take k changes) c
