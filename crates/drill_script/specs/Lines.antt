-- The results of a reader of lines.
use Rattle.std.specs.Prelude.{ℕ, ◌+◌, ◌<◌, ◌≤◌, List, length, take}
use Rattle.byte_forms.specs.Parted.{Lacks, parted}
use Rattle.drill_script.specs.LineText.{line_limit}
use Rattle.drill_script.specs.declared.lines.LineGot.{LineGot}
use Rattle.drill_script.specs.declared.lines.LineGot.TheVariants.{Line, End, Unended, TooLong, Failed, NoMemory}

-- P holds for the line, if one was read
abbrev pub IfLine : LineGot → (List ℕ → Type 0) → Type 0
IfLine (Line line) P = P line
IfLine End P = Unit {0}
IfLine Unended P = Unit {0}
IfLine TooLong P = Unit {0}
IfLine Failed P = Unit {0}
IfLine NoMemory P = Unit {0}

-- P holds if no line was read
abbrev pub OnNoLine : LineGot → Type 0 → Type 0
OnNoLine (Line line) P = Unit {0}
OnNoLine End P = P
OnNoLine Unended P = P
OnNoLine TooLong P = P
OnNoLine Failed P = P
OnNoLine NoMemory P = P

-- the maximum number of bytes that a reader holds: those of the longest line and of one piece
abbrev pub ahead_limit : ℕ
ahead_limit = line_limit + 65536

-- the bytes held, after the line that was just read, are within this limit
abbrev pub IsAhead : LineGot → List ℕ → Type 0
IsAhead (Line line) held = length (parted 10 line held) ≤ ahead_limit
IsAhead End held = length held ≤ ahead_limit
IsAhead Unended held = length held ≤ ahead_limit
IsAhead TooLong held = length held ≤ ahead_limit
IsAhead Failed held = length held ≤ ahead_limit
IsAhead NoMemory held = length held ≤ ahead_limit

-- the first LF comes after more bytes than a line may have
unfoldable pub BeginsLong : List ℕ → Type 0
BeginsLong bytes = (line_limit < length bytes) × Lacks 10 (take (line_limit + 1) bytes)
