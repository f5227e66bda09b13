-- Messages with their check lines.
use Rattle.std.specs.Prelude.{◌≡◌, List, ℕ, ◌++◌, Bool, false, codes, length}
use Rattle.std.specs.Fmt.{decimal}
use Rattle.as4_flow.specs.Flow.{Streams}
use Rattle.as4_message.specs.Line.{IsLine}
use Rattle.as4_message.specs.Meaning.{Means}
use Rattle.conformance.specs.Ran.{IsVerdict, RunEnds}
use Rattle.conformance.specs.declared.listing.Listed.{Listed}
use Rattle.conformance.specs.declared.messages.Case.{Case}
use Rattle.conformance.specs.declared.messages.Vector.{Vector}
use Rattle.conformance.specs.declared.suite.SuiteEnd.{SuiteEnd}
use Rattle.conformance.specs.declared.suite.SuiteEnd.TheVariants as suite
use Rattle.conformance.specs.declared.rows.VectorEnd.{VectorEnd}
use Rattle.conformance.specs.declared.rows.VectorEnd.TheVariants.{Done, WriteFault, NoMemory}

-- the check line of a case, which ends in LF
abbrev pub IsCheckLine : Case → List ℕ → Type 0
IsCheckLine case line = (refused : Bool) × IsLine (Means case.media.now case.body.now) line refused

-- the line of a case: its name, a space and its check line. It differs from nothing
abbrev pub IsCaseLine : Case → List ℕ → Bool → Type 0
IsCaseLine case line differs =
    (words : List ℕ) × IsCheckLine case words × (line ≡ case.name.now ++ codes " " ++ words) × (differs ≡ false)

-- the line of a vector: whether its case has the check line that is wanted
abbrev pub IsVectorLine : Vector → List ℕ → Bool → Type 0
IsVectorLine vector line differs = IsVerdict (IsCheckLine vector.case vector.want.now) vector.case.name.now line differs

-- a vector written out: a line of its name and the lengths of its media text, its body and the wanted line; then these
-- three
abbrev pub listed : Vector → List ℕ
listed vector =
    vector.case.name.now ++ codes " " ++ decimal (length vector.case.media.now) ++ codes " " ++ decimal (length vector.case.body.now)
    ++ codes " " ++ decimal (length vector.want.now) ++ codes "\n" ++ vector.case.media.now ++ vector.case.body.now ++ vector.want.now

-- what is written of a listed vector; it differs from nothing
abbrev pub IsListedLine : Listed → List ℕ → Bool → Type 0
IsListedLine row line differs = (line ≡ listed row.vector) × (differs ≡ false)

-- the end of a run whose rows can't differ
abbrev pub suite_end : VectorEnd → SuiteEnd
suite_end (Done differ) = suite.Done
suite_end WriteFault = suite.WriteFault
suite_end NoMemory = suite.NoMemory

abbrev pub run_end : SuiteEnd → VectorEnd
run_end suite.Done = Done 0
run_end suite.WriteFault = WriteFault
run_end suite.NoMemory = NoMemory

-- how a run of the suite ends
abbrev pub SuiteEnds : List Case → SuiteEnd → Streams → Type 0
SuiteEnds cases end streams = RunEnds IsCaseLine cases (run_end end) streams

-- how a run that writes vectors out ends
abbrev pub ListingEnds : List Listed → SuiteEnd → Streams → Type 0
ListingEnds rows end streams = RunEnds IsListedLine rows (run_end end) streams
