-- A power failure inside a call, and what the next opening reads.
use Rattle.std.specs.Prelude.{◌≡◌, List, [], ◌∷◌, ◌++◌, Option, Some, None}
use Rattle.as4_disk.specs.Image.{Image}
use Rattle.as4_disk.specs.declared.fault_counts.FaultCounts.{FaultCounts}
use Rattle.mode_values.specs.declared.mode.Mode.{Mode}
use Rattle.msh_recovery.specs.Opens.{OpensFolded, ReadsAs}
use Rattle.exchange_model.specs.End.{End}
use Rattle.exchange_model.specs.declared.event.Event.{Event}
use Rattle.office.specs.Left.{OpensBeforeOrAfter}
use Rattle.office.specs.Openings.{Opening}
use Rattle.office.specs.declared.call.Call.{Call}
use Rattle.office.specs.declared.call.Call.TheVariants.{Stop}

-- What a power failure leaves inside a call that handles this event at this end, or, without an event, compacts the journal.
-- The contracts of these calls say so of each moment of the call (`any_moment` of `Handles` and of `Checkpoints`).
abbrev pub LeavesInside : List Mode → End → Option Event → Image → Type 0
LeavesInside modes end (Some event) image = OpensBeforeOrAfter modes end event image
LeavesInside modes end None image = OpensFolded image end

-- an opening that ends inside a call, as if that call had entered a `Stop` with these counts
abbrev pub cut_off : List Mode → List Call → Option Event → FaultCounts → Image → Opening
cut_off modes calls event halt image = record { modes = modes; calls = calls ++ Stop event halt ∷ []; left = image }

-- the disk reads as an end, and as no other
abbrev pub ReadsAsOne : Image → Type 0
ReadsAsOne image = (end : End) × ReadsAs image end × ((other : End) → ReadsAs image other → end ≡ other)
