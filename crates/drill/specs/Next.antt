-- What stands next in a script.
use Rattle.std.specs.Prelude.{◌≡◌, ℕ, ◌<◌, ◌≤◌, List, ◌∷◌, ◌++◌, IsTrue, Option, length}
use Rattle.as4_flow.specs.Flow.{before}
use Rattle.drill.specs.declared.next.Next.{Next}
use Rattle.drill.specs.declared.next.Next.TheVariants as next
use Rattle.drill_script.specs.LineText.{line_text, is_line, line_limit}
use Rattle.drill_script.specs.Lines.{ahead_limit}
use Rattle.drill_script.specs.declared.line.Line.{Line}

-- P holds of the line, if one came
abbrev pub IfLine : Next → (Line → Type 0) → Type 0
IfLine (next.Line line) P = P line
IfLine next.End P = Unit {0}
IfLine next.Outside P = Unit {0}
IfLine next.Failed P = Unit {0}
IfLine next.NoMemory P = Unit {0}

-- something stands here, and no line in range and within the limit
abbrev pub HoldsNoLine : List ℕ → Type 0
HoldsNoLine bytes =
    (0 < length bytes)
    × ((line : Line) (more : List ℕ) → bytes ≡ line_text line ++ 10 ∷ more → IsTrue (is_line line)
    → line_limit < length (line_text line))

-- what was held and left is what is left now behind bytes that are no more than what is read ahead
abbrev pub ReadsAhead : List ℕ → Option (List ℕ) → Option (List ℕ) → Type 0
ReadsAhead held left later = (now : List ℕ) × (length now ≤ ahead_limit) × (before held left ≡ before now later)
