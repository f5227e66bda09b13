-- The prefix of the bytes that a reader holds, and what a read adds to them.
use Rattle.std.specs.Prelude.{◌≡◌, ℕ, ◌+◌, ◌<◌, ◌≤◌, List, length, take, drop}
use Rattle.byte_forms.specs.Parted.{Lacks, parted}
use Rattle.drill_script.specs.LineText.{line_limit}
use Rattle.drill_script.specs.Lines.{BeginsLong}
use Rattle.drill_script.specs.declared.lines.Filled.{Filled}
use Rattle.drill_script.specs.declared.lines.Filled.TheVariants.{Gave, End, Failed, NoMemory}
use Rattle.drill_script.specs.declared.lines.Front.{Front}
use Rattle.drill_script.specs.declared.lines.Front.TheVariants.{Line, Unfinished, TooLong}

-- the bytes begin with a line of this many bytes
pub record BeginsLine (bytes : List ℕ) (at : ℕ) : Type 0 where
  pub parts : bytes ≡ parted 10 (take at bytes) (drop (at + 1) bytes)
  pub lacks : Lacks 10 (take at bytes)
  pub room : at < length bytes
  pub short : at ≤ line_limit

-- the bytes begin so
abbrev pub Has : List ℕ → Front → Type 0
Has bytes (Line at) = BeginsLine bytes at
Has bytes Unfinished = Lacks 10 bytes × (length bytes ≤ line_limit)
Has bytes TooLong = BeginsLong bytes

-- P holds if bytes arrived, and Q if none did
abbrev pub MatchFilled : Filled → Type 0 → Type 0 → Type 0
MatchFilled Gave P Q = P
MatchFilled End P Q = Q
MatchFilled Failed P Q = Q
MatchFilled NoMemory P Q = Q
