-- Which counts of faults rise with an end.
use Rattle.std.specs.Prelude.{◌≡◌, ℕ, Bool, true, false}
use Rattle.as4_flow.specs.Flow.{Rose}
use Rattle.clients.specs.declared.ending.CollectEnd.{CollectEnd}
use Rattle.clients.specs.declared.ending.CollectEnd.TheVariants as collect
use Rattle.clients.specs.declared.ending.SubmitEnd.{SubmitEnd}
use Rattle.clients.specs.declared.ending.SubmitEnd.TheVariants as submit

-- a count that rises, or one that stays
abbrev pub RisesIf : Bool → ℕ → ℕ → Type 0
RisesIf true old new = Rose old new
RisesIf false old new = new ≡ old

-- the ends by which a submission's counts of reads, of writes and of faults rise
abbrev pub submit_reads : SubmitEnd → Bool
submit_reads submit.ReadFault = true
submit_reads other = false

abbrev pub submit_writes : SubmitEnd → Bool
submit_writes submit.WriteFault = true
submit_writes other = false

abbrev pub submit_faults : SubmitEnd → Bool
submit_faults submit.LinkFault = true
submit_faults other = false

-- those by which a collection's rise, and the output's
abbrev pub collect_reads : CollectEnd → Bool
collect_reads collect.ReadFault = true
collect_reads other = false

abbrev pub collect_writes : CollectEnd → Bool
collect_writes collect.WriteFault = true
collect_writes other = false

abbrev pub collect_faults : CollectEnd → Bool
collect_faults collect.LinkFault = true
collect_faults collect.FileFault = true
collect_faults other = false

abbrev pub collect_outputs : CollectEnd → Bool
collect_outputs collect.OutputFault = true
collect_outputs other = false
