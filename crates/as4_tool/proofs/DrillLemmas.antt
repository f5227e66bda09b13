-- The status at a drill's end, and its cause.
use Rattle.std.proofs.Common.{◌≡◌, ◌≢◌, ◌≤◌, ℕ, List, Option, None, refl, arith}
use Rattle.as4_flow.specs.Flow.{Streams}
use Rattle.drill.specs.Ends.{CountsAt}
use Rattle.drill.specs.Generated.{GeneratedAt}
use Rattle.drill.specs.declared.script.DrillEnd.{DrillEnd}
use Rattle.drill.specs.declared.script.DrillEnd.TheVariants as ends
use Rattle.drill.specs.Ends.{Ends as DrillEnds}
use Rattle.drill.specs.Generated.{GeneratedEnds}
use Rattle.drill.specs.Playing.{chain_meaning, pair_meaning}
use Rattle.as4_flow.specs.Flow.{between, flow}
use Rattle.as4_tool.specs.Command.{drill, generate}
use Rattle.as4_tool.specs.Ends.{Ends, TellsFaults}
use Rattle.as4_tool.specs.Runs.{ReadsFile, RunsOver, WritesLinewise}
use Rattle.as4_tool.specs.Status.{code_of, status_of}
use Rattle.as4_tool.specs.declared.command.DrillKind.{DrillKind}
use Rattle.as4_tool.specs.declared.command.DrillKind.TheVariants as kind
use Rattle.as4_tool.specs.declared.status.Status.TheVariants.{Done, ReadFault, WriteFault, TooLong, NotUser, BadWords}

-- the status is never one of these
pub no_other : (end : DrillEnd)
    → (code_of (status_of end) ≢ code_of TooLong) × (code_of (status_of end) ≢ code_of NotUser)
    × (code_of (status_of end) ≢ code_of BadWords)
no_other ends.Read = (omega arith, omega arith, omega arith)
no_other (ends.Line number) = (omega arith, omega arith, omega arith)
no_other ends.TooMany = (omega arith, omega arith, omega arith)
no_other ends.ReadFault = (omega arith, omega arith, omega arith)
no_other ends.WriteFault = (omega arith, omega arith, omega arith)
no_other ends.NoMemory = (omega arith, omega arith, omega arith)

-- status 3 means that the source has failed; otherwise its fault count is unchanged
pub reads : (end : DrillEnd) (streams : Streams) → CountsAt end streams → TellsFaults ReadFault (code_of (status_of end)) streams.read_faults streams.later_read_faults
reads ends.Read streams counts = (λ is. absurd (omega (arith, is)), λ _. counts.0)
reads (ends.Line number) streams counts = (λ is. absurd (omega (arith, is)), λ _. counts.0)
reads ends.TooMany streams counts = (λ is. absurd (omega (arith, is)), λ _. counts.0)
reads ends.ReadFault streams counts = (λ _. counts.0, λ never. absurd (never refl))
reads ends.WriteFault streams counts = (λ is. absurd (omega (arith, is)), λ _. counts.0)
reads ends.NoMemory streams counts = (λ is. absurd (omega (arith, is)), λ _. counts.0)

-- status 4 means that the sink has failed; otherwise its fault count is unchanged
pub writes : (end : DrillEnd) (streams : Streams) → CountsAt end streams → TellsFaults WriteFault (code_of (status_of end)) streams.write_faults streams.later_write_faults
writes ends.Read streams counts = (λ is. absurd (omega (arith, is)), λ _. counts.1)
writes (ends.Line number) streams counts = (λ is. absurd (omega (arith, is)), λ _. counts.1)
writes ends.TooMany streams counts = (λ is. absurd (omega (arith, is)), λ _. counts.1)
writes ends.ReadFault streams counts = (λ is. absurd (omega (arith, is)), λ _. counts.1)
writes ends.WriteFault streams counts = (λ _. counts.1, λ never. absurd (never refl))
writes ends.NoMemory streams counts = (λ is. absurd (omega (arith, is)), λ _. counts.1)

-- a generated script never ends with a read fault, nor with one of these others
pub no_fault_of_input : (seed count : ℕ) (end : DrillEnd) (streams : Streams) → GeneratedAt seed count end streams
    → (code_of (status_of end) ≢ code_of ReadFault) × (code_of (status_of end) ≢ code_of TooLong)
    × (code_of (status_of end) ≢ code_of NotUser) × (code_of (status_of end) ≢ code_of BadWords)
no_fault_of_input seed count ends.Read streams drilled = (omega arith, omega arith, omega arith, omega arith)
no_fault_of_input seed count (ends.Line number) streams drilled = absurd drilled
no_fault_of_input seed count ends.TooMany streams drilled = absurd drilled
no_fault_of_input seed count ends.ReadFault streams drilled = absurd drilled
no_fault_of_input seed count ends.WriteFault streams drilled = (omega arith, omega arith, omega arith, omega arith)
no_fault_of_input seed count ends.NoMemory streams drilled = (omega arith, omega arith, omega arith, omega arith)

-- unless the status is 0 or 4, a generated script writes nothing
pub generated_silent : (seed count : ℕ) (end : DrillEnd) (streams : Streams) → GeneratedAt seed count end streams
    → code_of (status_of end) ≢ code_of Done → code_of (status_of end) ≢ code_of WriteFault → streams.later ≡ streams.taken
generated_silent seed count ends.Read streams drilled done fault = absurd (done refl)
generated_silent seed count (ends.Line number) streams drilled done fault = absurd drilled
generated_silent seed count ends.TooMany streams drilled done fault = absurd drilled
generated_silent seed count ends.ReadFault streams drilled done fault = absurd drilled
generated_silent seed count ends.WriteFault streams drilled done fault = absurd (fault refl)
generated_silent seed count ends.NoMemory streams drilled done fault = drilled

-- a run of a script that isn't drawn
played : (kind : DrillKind) (end : DrillEnd) (streams : Streams) → Ends (drill kind) (status_of end) streams
    → (ReadsFile (drill kind) → ⊥) → WritesLinewise (drill kind) → CountsAt end streams
    → (streams.read_faults ≤ streams.later_read_faults) × (streams.write_faults ≤ streams.later_write_faults)
    → RunsOver (drill kind) (status_of end) streams
played kind end streams drilled reads_none linewise counts counted = record {
  ends = drilled;
  read_faults = reads end streams counts;
  write_faults = writes end streams counts;
  streamed = record {
    too_long = λ is. absurd ((no_other end).0 is);
    not_user = λ is. absurd ((no_other end).1 is);
    reads = λ file. absurd (reads_none file);
    silent = λ never done refused fault. absurd (never linewise);
    right = (no_other end).2;
    counted = counted;
  };
}

pub pair_played : (end : DrillEnd) (streams : Streams) → DrillEnds pair_meaning end streams
    → (streams.read_faults ≤ streams.later_read_faults) × (streams.write_faults ≤ streams.later_write_faults)
    → RunsOver (drill kind.Pair) (status_of end) streams
pair_played end streams drilled = played kind.Pair end streams (end, refl, drilled) (λ file. absurd file) tt drilled.5

pub chain_played : (end : DrillEnd) (streams : Streams) → DrillEnds chain_meaning end streams
    → (streams.read_faults ≤ streams.later_read_faults) × (streams.write_faults ≤ streams.later_write_faults)
    → RunsOver (drill kind.Hub) (status_of end) streams
chain_played end streams drilled = played kind.Hub end streams (end, refl, drilled) (λ file. absurd file) tt drilled.5

-- a run of a generated script, whatever is left of the input
pub generated : (seed count : ℕ) (end : DrillEnd) (left : Option (List ℕ)) (reads : ℕ) (taken later : Option (List ℕ)) (faults later_faults : ℕ)
    → GeneratedEnds seed count end (between (flow None taken 0 faults) (flow None later 0 later_faults)) → faults ≤ later_faults
    → RunsOver (generate seed count) (status_of end) (between (flow left taken reads faults) (flow left later reads later_faults))
generated seed count end left reads taken later faults later_faults drilled counted =
    let streams = between (flow None taken 0 faults) (flow None later 0 later_faults) in
    let others = no_fault_of_input seed count end streams drilled.0 in record {
      ends = (end, refl, drilled);
      read_faults = (λ is. absurd (others.0 is), λ _. refl);
      write_faults = writes end streams drilled.1;
      streamed = record {
        too_long = λ is. absurd (others.1 is);
        not_user = λ is. absurd (others.2 is);
        reads = λ never. absurd never;
        silent = λ never done refused fault. generated_silent seed count end streams drilled.0 done fault;
        right = others.3;
        counted = (omega arith, counted);
      };
    }
