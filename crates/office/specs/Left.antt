-- What a crash may leave of an office's disk.
use Rattle.std.specs.Prelude.{◌≡◌, ◌⊎◌, List, [], ◌∷◌, Some, None}
use Rattle.as4_disk.specs.Image.{Image}
use Rattle.mode_values.specs.declared.mode.Mode.{Mode}
use Rattle.msh_recovery.specs.Opens.{IsAt, IsAtWith, OpensFolded}
use Rattle.exchange_model.specs.Apply.{applied}
use Rattle.exchange_model.specs.End.{End}
use Rattle.exchange_model.specs.Table.{Step}
use Rattle.exchange_model.specs.declared.event.Event.{Event}
use Rattle.exchange_model.specs.declared.outcome.Outcome.{Outcome}
use Rattle.office.specs.declared.call.Call.{Call}
use Rattle.office.specs.declared.call.Call.TheVariants.{Done, Folded, Stop}

-- the event's step leads from one end to the other
abbrev pub IsStepTo : List Mode → End → Event → End → Type 0
IsStepTo modes end event next = (outcome : Outcome) × Step modes end event outcome × (next ≡ applied outcome.effects end)

-- a disk is at the end before the event's step, with that step pending at most; or at the end behind it
abbrev pub OpensBeforeOrAfter : List Mode → End → Event → Image → Type 0
OpensBeforeOrAfter modes end event image =
    IsAtWith image end (IsStepTo modes end event) ⊎ ((next : End) × IsStepTo modes end event next × IsAt image next)

-- Behind these calls: the end; or, where the disk failed, what was left then: the event's step was made or wasn't, or the
-- journal was folded or wasn't.
abbrev pub IsLeft : List Mode → End → List Call → Image → Type 0
IsLeft modes end [] image = IsAt image end
IsLeft modes end (Done event reply ∷ calls) image = IsLeft modes end calls image
IsLeft modes end (Folded size ∷ calls) image = IsLeft modes end calls image
IsLeft modes end (Stop (Some event) halt ∷ calls) image = OpensBeforeOrAfter modes end event image
IsLeft modes end (Stop None halt ∷ calls) image = OpensFolded image end
