-- Which counts of faults rise with the status of a collection.
use Rattle.std.proofs.Common.{inl, inr, ℕ, refl, arith}
use Rattle.clients.specs.Causes.{RisesIf, collect_faults, collect_outputs, collect_reads, collect_writes}
use Rattle.clients.specs.declared.ending.CollectEnd.{CollectEnd}
use Rattle.clients.specs.declared.ending.CollectEnd.TheVariants as collect
use Rattle.as4_tool.specs.Ends.{TellsFaults}
use Rattle.as4_tool.specs.Runs.{TellsEither}
use Rattle.as4_tool.specs.Status.{code_of, status_of_collection}
use Rattle.as4_tool.specs.declared.status.Status.TheVariants.{HostFault, ReadFault, WriteFault}

pub reads_told : (end : CollectEnd) (reads later : ℕ) → RisesIf (collect_reads end) reads later → TellsFaults ReadFault (code_of (status_of_collection end)) reads later
reads_told collect.Done reads later same = (λ is. absurd (omega (arith, is)), λ other. same)
reads_told collect.NoEntry reads later same = (λ is. absurd (omega (arith, is)), λ other. same)
reads_told (collect.Refused status) reads later same = (λ is. absurd (omega (arith, is)), λ other. same)
reads_told collect.BadResponse reads later same = (λ is. absurd (omega (arith, is)), λ other. same)
reads_told collect.LinkFault reads later same = (λ is. absurd (omega (arith, is)), λ other. same)
reads_told collect.FileFault reads later same = (λ is. absurd (omega (arith, is)), λ other. same)
reads_told collect.WriteFault reads later same = (λ is. absurd (omega (arith, is)), λ other. same)
reads_told collect.OutputFault reads later same = (λ is. absurd (omega (arith, is)), λ other. same)
reads_told collect.ReadFault reads later rose = (λ is. rose, λ other. absurd (other refl))
reads_told collect.NoMemory reads later same = (λ is. absurd (omega (arith, is)), λ other. same)

pub host_told : (end : CollectEnd) (faults later : ℕ) → RisesIf (collect_faults end) faults later → TellsFaults HostFault (code_of (status_of_collection end)) faults later
host_told collect.Done faults later same = (λ is. absurd (omega (arith, is)), λ other. same)
host_told collect.NoEntry faults later same = (λ is. absurd (omega (arith, is)), λ other. same)
host_told (collect.Refused status) faults later same = (λ is. absurd (omega (arith, is)), λ other. same)
host_told collect.BadResponse faults later same = (λ is. absurd (omega (arith, is)), λ other. same)
host_told collect.LinkFault faults later rose = (λ is. rose, λ other. absurd (other refl))
host_told collect.FileFault faults later rose = (λ is. rose, λ other. absurd (other refl))
host_told collect.WriteFault faults later same = (λ is. absurd (omega (arith, is)), λ other. same)
host_told collect.OutputFault faults later same = (λ is. absurd (omega (arith, is)), λ other. same)
host_told collect.ReadFault faults later same = (λ is. absurd (omega (arith, is)), λ other. same)
host_told collect.NoMemory faults later same = (λ is. absurd (omega (arith, is)), λ other. same)

pub writes_told : (end : CollectEnd) (output output_later writes writes_later : ℕ) → RisesIf (collect_outputs end) output output_later → RisesIf (collect_writes end) writes writes_later
    → TellsEither WriteFault (code_of (status_of_collection end)) output output_later writes writes_later
writes_told collect.Done output output_later writes writes_later same also = (λ is. absurd (omega (arith, is)), λ other. (same, also))
writes_told collect.NoEntry output output_later writes writes_later same also = (λ is. absurd (omega (arith, is)), λ other. (same, also))
writes_told (collect.Refused status) output output_later writes writes_later same also = (λ is. absurd (omega (arith, is)), λ other. (same, also))
writes_told collect.BadResponse output output_later writes writes_later same also = (λ is. absurd (omega (arith, is)), λ other. (same, also))
writes_told collect.LinkFault output output_later writes writes_later same also = (λ is. absurd (omega (arith, is)), λ other. (same, also))
writes_told collect.FileFault output output_later writes writes_later same also = (λ is. absurd (omega (arith, is)), λ other. (same, also))
writes_told collect.WriteFault output output_later writes writes_later same rose = (λ is. inr rose, λ other. absurd (other refl))
writes_told collect.OutputFault output output_later writes writes_later rose same = (λ is. inl rose, λ other. absurd (other refl))
writes_told collect.ReadFault output output_later writes writes_later same also = (λ is. absurd (omega (arith, is)), λ other. (same, also))
writes_told collect.NoMemory output output_later writes writes_later same also = (λ is. absurd (omega (arith, is)), λ other. (same, also))
