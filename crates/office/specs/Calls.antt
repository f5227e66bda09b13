-- The history of an office: its calls, and the end that they lead to.
use Rattle.std.specs.Prelude.{◌≡◌, ◌<◌, Bool, true, List, [], ◌∷◌, Option, Some, None}
use Rattle.std.specs.List.{AllByRecursion}
use Rattle.as4_flow.specs.Flow.{Rose}
use Rattle.mode_values.specs.declared.mode.Mode.{Mode}
use Rattle.exchange_model.specs.Apply.{applied}
use Rattle.exchange_model.specs.End.{End}
use Rattle.exchange_model.specs.Fold.{IsFoldedSize, resized}
use Rattle.exchange_model.specs.declared.outcome.Outcome.{Outcome}
use Rattle.exchange_model.specs.declared.reply.Reply.TheVariants.{Stopped}
use Rattle.office.specs.Observed.{StepWhere}
use Rattle.office.specs.declared.call.Call.{Call}
use Rattle.office.specs.declared.call.Call.TheVariants.{Done, Folded, Stop}
use Rattle.as4_disk.specs.declared.fault_counts.FaultCounts.{FaultCounts}

-- an event is answered with the counts of an earlier fault
abbrev pub IsRefusedAt : FaultCounts → Call → Type 0
IsRefusedAt halt (Done event reply) = reply ≡ Stopped halt.before halt.after
IsRefusedAt halt (Folded size) = ⊥
IsRefusedAt halt (Stop event at) = ⊥

-- These calls lead from one end to the other. Each event has its step, and the reply is the step's. A compaction makes
-- the journal shorter and changes nothing else. When the disk failed, nothing was changed, and only refusals follow. The
-- first argument says whether the disk was observable: if not, the payloads of a `Read` aren't known.
abbrev pub LeadsWhere : Bool → List Mode → End → List Call → End → Type 0
LeadsWhere observable modes start [] end = start ≡ end
LeadsWhere observable modes start (Done event reply ∷ calls) end =
    (outcome : Outcome) × StepWhere observable modes start event outcome × (reply ≡ outcome.reply)
    × LeadsWhere observable modes (applied outcome.effects start) calls end
LeadsWhere observable modes start (Folded size ∷ calls) end =
    IsFoldedSize start size × (size < start.size) × LeadsWhere observable modes (resized size start) calls end
LeadsWhere observable modes start (Stop event halt ∷ calls) end =
    Rose halt.before halt.after × AllByRecursion (IsRefusedAt halt) calls × (start ≡ end)

-- each reply is known
abbrev pub Leads : List Mode → End → List Call → End → Type 0
Leads modes start calls end = LeadsWhere true modes start calls end

-- the fault among these calls, if there is one
abbrev pub stop_of : List Call → Option FaultCounts
stop_of [] = None
stop_of (Done event reply ∷ calls) = stop_of calls
stop_of (Folded size ∷ calls) = stop_of calls
stop_of (Stop event halt ∷ calls) = Some halt
