-- What the runs of the conformance suite do to the output. The rows are the tables of `as4_vectors`, of which these clauses
-- have the lengths alone.
use Rattle.std.specs.Prelude.{◌≡◌, ℕ, ◌==◌, ◌&&◌, List, Option, None, Bool, if◌then◌else◌, length}
use Rattle.as4_flow.specs.Flow.{Streams, between, flow}
use Rattle.conformance.specs.Cases.{IsVectorLine, ListingEnds, SuiteEnds}
use Rattle.conformance.specs.Exchanges.{IsExchangeLine}
use Rattle.conformance.specs.Plays.{IsPlayLine}
use Rattle.conformance.specs.Ran.{RunEnds}
use Rattle.conformance.specs.declared.listing.Listed.{Listed}
use Rattle.conformance.specs.declared.messages.Case.{Case}
use Rattle.conformance.specs.declared.rows.VectorEnd.{VectorEnd}
use Rattle.conformance.specs.declared.rows.VectorEnd.TheVariants as run
use Rattle.conformance.specs.declared.suite.SuiteEnd.{SuiteEnd}
use Rattle.as4_tool.specs.Status.{status_of_suite}
use Rattle.as4_tool.specs.declared.command.Suite.{Suite}
use Rattle.as4_tool.specs.declared.command.Suite.TheVariants as what
use Rattle.as4_tool.specs.declared.status.Status.{Status}
use Rattle.as4_tool.specs.declared.status.Status.TheVariants.{Done, NoMemory, Refused, WriteFault}

-- an output: what it has taken, and how often it has failed
pub record Output : Type 0 where
  pub taken : Option (List ℕ)
  pub faults : ℕ

abbrev pub output : Option (List ℕ) → ℕ → Output
output taken faults = record { taken = taken; faults = faults }

-- the output before and after, as streams without an input
abbrev pub written : Output → Output → Streams
written old new = between (flow None old.taken 0 old.faults) (flow None new.taken 0 new.faults)

-- after a run that has written all of its lines the rest follows; after any other there is none
abbrev pub Follows : VectorEnd → Output → Output → Status → (ℕ → Type 0) → Type 0
Follows (run.Done differ) here last status Rest = Rest differ
Follows run.WriteFault here last status Rest = (status ≡ WriteFault) × (last ≡ here)
Follows run.NoMemory here last status Rest = (status ≡ NoMemory) × (last ≡ here)

-- a run over a table of this length, and what follows it
abbrev pub RunsTable : {R : Type 0} → (R → List ℕ → Bool → Type 0) → ℕ → Output → Output → Status → (ℕ → Output → Type 0) → Type 0
RunsTable {R} IsLine count old last status Rest =
    (rows : List R) × (end : VectorEnd) × (here : Output) × (length rows ≡ count) × RunEnds IsLine rows end (written old here)
    × Follows end here last status (λ differ. Rest differ here)

-- the run over the plays; the status says whether a row of any table differs
abbrev pub VerifiesPlays : ℕ → ℕ → Status → Output → Output → Type 0
VerifiesPlays vectors exchanges status old last =
    RunsTable IsPlayLine 100 old last status (λ plays here.
    (status ≡ (if vectors == 0 && exchanges == 0 && plays == 0 then Done else Refused)) × (last ≡ here))

-- the run over the exchanges, and then that over the plays
abbrev pub VerifiesExchanges : ℕ → Status → Output → Output → Type 0
VerifiesExchanges vectors status old last =
    RunsTable IsExchangeLine 160 old last status (λ exchanges here. VerifiesPlays vectors exchanges status here last)

-- the run over the vectors, and then the others
abbrev pub Verifies : Status → Output → Output → Type 0
Verifies status old last = RunsTable IsVectorLine 580 old last status (λ vectors here. VerifiesExchanges vectors status here last)

-- what each run of the suite does
abbrev pub RunsSuite : Suite → Status → Output → Output → Type 0
RunsSuite what.Check status old new =
    (cases : List Case) × (end : SuiteEnd) × (length cases ≡ 580) × (status ≡ status_of_suite end) × SuiteEnds cases end (written old new)
RunsSuite what.Verify status old new = Verifies status old new
RunsSuite what.List status old new =
    (rows : List Listed) × (end : SuiteEnd) × (length rows ≡ 580) × (status ≡ status_of_suite end) × ListingEnds rows end (written old new)
