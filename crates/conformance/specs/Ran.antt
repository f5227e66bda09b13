-- A run over rows: the line that it writes for each, and how it ends.
use Rattle.std.specs.Prelude.{◌≡◌, ℕ, ◌+◌, List, [], ◌∷◌, ◌++◌, Bool, true, false, if◌then◌else◌, take, codes}
use Rattle.as4_flow.specs.Flow.{Rose, Streams, TakesFront, appended}
use Rattle.conformance.specs.declared.rows.VectorEnd.{VectorEnd}
use Rattle.conformance.specs.declared.rows.VectorEnd.TheVariants.{Done, WriteFault, NoMemory}

-- the line of a row that has a wanted text: its name, and " ok" if the text is right, else " differs"; and whether it differs
abbrev pub IsVerdict : Type 0 → List ℕ → List ℕ → Bool → Type 0
IsVerdict IsRight name line false = IsRight × (line ≡ name ++ codes " ok\n")
IsVerdict IsRight name line true = (¬ IsRight) × (line ≡ name ++ codes " differs\n")

-- the text is the lines of the rows, in order, and this number of rows differ
abbrev pub AreLines : {R : Type 0} → (R → List ℕ → Bool → Type 0) → List R → List ℕ → ℕ → Type 0
AreLines IsLine [] text differ = (text ≡ []) × (differ ≡ 0)
AreLines IsLine (row ∷ rows) text differ =
    (line : List ℕ) × (differs : Bool) × (rest : List ℕ) × (others : ℕ) × IsLine row line differs
    × AreLines IsLine rows rest others × (text ≡ line ++ rest) × (differ ≡ (if differs then others + 1 else others))

-- the lines of the first rows
abbrev pub AreFirstLines : {R : Type 0} → (R → List ℕ → Bool → Type 0) → List R → List ℕ → Type 0
AreFirstLines IsLine rows text = (count : ℕ) × (differ : ℕ) × AreLines IsLine (take count rows) text differ

-- all lines were written; or the sink has failed, and a prefix of the lines was written; or memory ran out, and the lines
-- of the first rows were written
abbrev pub RunEnds : {R : Type 0} → (R → List ℕ → Bool → Type 0) → List R → VectorEnd → Streams → Type 0
RunEnds IsLine rows (Done differ) streams =
    (text : List ℕ) × AreLines IsLine rows text differ × (streams.later ≡ appended streams.taken text)
    × (streams.later_write_faults ≡ streams.write_faults)
RunEnds IsLine rows WriteFault streams =
    (text : List ℕ) × AreFirstLines IsLine rows text × TakesFront text streams.taken streams.later
    × Rose streams.write_faults streams.later_write_faults
RunEnds IsLine rows NoMemory streams =
    (text : List ℕ) × AreFirstLines IsLine rows text × (streams.later ≡ appended streams.taken text)
    × (streams.later_write_faults ≡ streams.write_faults)
