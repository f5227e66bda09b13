-- The ends of the runs of the suite: their statuses, and which stream has failed.
use Rattle.std.proofs.Common.{◌≡◌, ◌≢◌, ◌≤◌, ◌==◌, ◌&&◌, ℕ, List, Bool, true, false, if◌then◌else◌, Option, refl, sym, subst, arith}
use Rattle.as4_flow.specs.Flow.{Rose, between, flow}
use Rattle.conformance.specs.Cases.{IsCaseLine, IsListedLine, IsVectorLine, run_end}
use Rattle.conformance.specs.Exchanges.{IsExchangeLine}
use Rattle.conformance.specs.Plays.{IsPlayLine}
use Rattle.conformance.specs.Ran.{RunEnds}
use Rattle.conformance.specs.declared.rows.VectorEnd.TheVariants as run
use Rattle.conformance.specs.declared.suite.SuiteEnd.{SuiteEnd}
use Rattle.conformance.specs.declared.suite.SuiteEnd.TheVariants as ending
use Rattle.as4_tool.specs.Command.{suite}
use Rattle.as4_tool.specs.Ends.{TellsFaults}
use Rattle.as4_tool.specs.Runs.{RunsOver}
use Rattle.as4_tool.specs.Status.{code_of, status_of_suite}
use Rattle.as4_tool.specs.Suites.{Output, RunsSuite, RunsTable, Verifies, VerifiesExchanges, VerifiesPlays, output, written}
use Rattle.as4_tool.specs.declared.command.Suite.{Suite}
use Rattle.as4_tool.specs.declared.command.Suite.TheVariants as what
use Rattle.as4_tool.specs.declared.status.Status.{Status}
use Rattle.as4_tool.specs.declared.status.Status.TheVariants.{BadWords, Done, NoMemory, NotUser, ReadFault, Refused, TooLong, WriteFault}

-- a run over rows ends with one of these statuses, and the status says whether the output has failed
pub record IsEnd (status : Status) (faults later : ℕ) : Type 0 where
  pub told : TellsFaults WriteFault (code_of status) faults later
  pub others : (code_of status ≢ code_of ReadFault) × (code_of status ≢ code_of TooLong) × (code_of status ≢ code_of NotUser)
      × (code_of status ≢ code_of BadWords)

done_is : (faults later : ℕ) → later ≡ faults → IsEnd Done faults later
done_is faults later same =
    record { told = (λ is. absurd (omega (arith, is)), λ _. same); others = (omega arith, omega arith, omega arith, omega arith) }

refused_is : (faults later : ℕ) → later ≡ faults → IsEnd Refused faults later
refused_is faults later same =
    record { told = (λ is. absurd (omega (arith, is)), λ _. same); others = (omega arith, omega arith, omega arith, omega arith) }

memory_is : (faults later : ℕ) → later ≡ faults → IsEnd NoMemory faults later
memory_is faults later same =
    record { told = (λ is. absurd (omega (arith, is)), λ _. same); others = (omega arith, omega arith, omega arith, omega arith) }

write_is : (faults later : ℕ) → Rose faults later → IsEnd WriteFault faults later
write_is faults later rose =
    record { told = (λ _. rose, λ never. absurd (never refl)); others = (omega arith, omega arith, omega arith, omega arith) }

suite_is : {R : Type 0} (IsLine : R → List ℕ → Bool → Type 0) (rows : List R) (end : SuiteEnd) (old new : Output)
    → RunEnds IsLine rows (run_end end) (written old new) → IsEnd (status_of_suite end) old.faults new.faults
suite_is IsLine rows ending.Done old new ends = done_is old.faults new.faults ends.3
suite_is IsLine rows ending.WriteFault old new ends = write_is old.faults new.faults ends.3
suite_is IsLine rows ending.NoMemory old new ends = memory_is old.faults new.faults ends.3

-- a run over a table, and an end of what follows it
table_is : {R : Type 0} (IsLine : R → List ℕ → Bool → Type 0) (count : ℕ) (old last : Output) (status : Status) (Rest : ℕ → Output → Type 0)
    → ((differ : ℕ) (here : Output) → Rest differ here → IsEnd status here.faults last.faults)
    → RunsTable IsLine count old last status Rest → IsEnd status old.faults last.faults
table_is IsLine count old last status Rest next (rows, run.Done differ, here, many, ends, follows) =
    subst (λ n. IsEnd status n last.faults) ends.3 (next differ here follows)
table_is IsLine count old last status Rest next (rows, run.WriteFault, here, many, ends, follows) =
    subst (λ s. IsEnd s old.faults last.faults) (sym follows.0)
    (subst (λ (o : Output). IsEnd WriteFault old.faults o.faults) (sym follows.1) (write_is old.faults here.faults ends.3))
table_is IsLine count old last status Rest next (rows, run.NoMemory, here, many, ends, follows) =
    subst (λ s. IsEnd s old.faults last.faults) (sym follows.0)
    (subst (λ (o : Output). IsEnd NoMemory old.faults o.faults) (sym follows.1) (memory_is old.faults here.faults ends.3))

judged : (none : Bool) (faults : ℕ) → IsEnd (if none then Done else Refused) faults faults
judged true faults = done_is faults faults refl
judged false faults = refused_is faults faults refl

plays_is : (vectors exchanges : ℕ) (status : Status) (old last : Output) → VerifiesPlays vectors exchanges status old last → IsEnd status old.faults last.faults
plays_is vectors exchanges status old last = table_is IsPlayLine 100 old last status _ (λ plays here rest.
    subst (λ s. IsEnd s here.faults last.faults) (sym rest.0)
    (subst (λ (o : Output). IsEnd (if vectors == 0 && exchanges == 0 && plays == 0 then Done else Refused) here.faults o.faults) (sym rest.1)
    (judged (vectors == 0 && exchanges == 0 && plays == 0) here.faults)))

exchanges_is : (vectors : ℕ) (status : Status) (old last : Output) → VerifiesExchanges vectors status old last → IsEnd status old.faults last.faults
exchanges_is vectors status old last =
    table_is IsExchangeLine 160 old last status _ (λ exchanges here rest. plays_is vectors exchanges status here last rest)

vectors_is : (status : Status) (old last : Output) → Verifies status old last → IsEnd status old.faults last.faults
vectors_is status old last = table_is IsVectorLine 580 old last status _ (λ vectors here rest. exchanges_is vectors status here last rest)

-- each run of the suite ends so
is_end : (what : Suite) (status : Status) (old new : Output) → RunsSuite what status old new → IsEnd status old.faults new.faults
is_end what.Check status old new (cases, end, many, is, ends) =
    subst (λ s. IsEnd s old.faults new.faults) (sym is) (suite_is IsCaseLine cases end old new ends)
is_end what.Verify status old new verifies = vectors_is status old new verifies
is_end what.List status old new (rows, end, many, is, ends) =
    subst (λ s. IsEnd s old.faults new.faults) (sym is) (suite_is IsListedLine rows end old new ends)

-- a run of the suite, whatever is left of the input
pub suite_runs : (what : Suite) (status : Status) (left : Option (List ℕ)) (reads : ℕ) (taken later : Option (List ℕ)) (faults later_faults : ℕ)
    → RunsSuite what status (output taken faults) (output later later_faults) → faults ≤ later_faults
    → RunsOver (suite what) status (between (flow left taken reads faults) (flow left later reads later_faults))
suite_runs what status left reads taken later faults later_faults runs counted =
    let end = is_end what status (output taken faults) (output later later_faults) runs in record {
      ends = runs;
      read_faults = (λ is. absurd (end.others.0 is), λ _. refl);
      write_faults = end.told;
      streamed = record {
        too_long = λ is. absurd (end.others.1 is);
        not_user = λ is. absurd (end.others.2 is);
        reads = λ never. absurd never;
        silent = λ never done refused fault. absurd (never tt);
        right = end.others.3;
        counted = (omega arith, counted);
      };
    }
