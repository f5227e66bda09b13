-- What happened at an end by the calls of its office, and by what a fault among them left.
use Rattle.std.specs.Prelude.{◌≡◌, ◌⊎◌, true, List, [], ◌∷◌, Option, Some, None}
use Rattle.mode_values.specs.declared.mode.Mode.{Mode}
use Rattle.exchange_model.specs.Alone.{MayHappenTo, end_after}
use Rattle.exchange_model.specs.End.{End}
use Rattle.exchange_model.specs.World.{Does, Folds, Happening, Site}
use Rattle.exchange_model.specs.declared.event.Event.{Event}
use Rattle.office.specs.declared.call.Call.{Call}
use Rattle.office.specs.declared.call.Call.TheVariants.{Done, Folded, Stop}

-- one after another they may happen at the one end, and they lead to the other
abbrev pub MayLead : List Happening → End → End → Type 0
MayLead all start end = MayHappenTo all start × (end_after all start ≡ end)

-- Each event that was made, with its reply, and each fold. From a fault of the disk on nothing happened that the office
-- knows of.
abbrev pub Happened : Site → List Mode → List Call → List Happening → Type 0
Happened site modes [] all = all ≡ []
Happened site modes (Done event reply ∷ calls) (Does act ∷ all) =
    (act.site ≡ site) × (act.modes ≡ modes) × (act.event ≡ event) × (act.outcome.reply ≡ reply) × Happened site modes calls all
Happened site modes (Folded size ∷ calls) (Folds at left ∷ all) = (at ≡ site) × (left ≡ size) × Happened site modes calls all
Happened site modes (Stop event halt ∷ calls) all = all ≡ []
Happened site modes calls all = ⊥

-- what was being done when the disk failed: the event's step at this site, under these modes, and its reply is lost; or,
-- without an event, a fold
abbrev pub IsLost : Site → List Mode → Option Event → List Happening → Type 0
IsLost site modes (Some event) (Does act ∷ []) = (act.site ≡ site) × (act.modes ≡ modes) × (act.event ≡ event) × (act.lost ≡ true)
IsLost site modes None (Folds at size ∷ []) = at ≡ site
IsLost site modes event more = ⊥

-- What is found done besides, when the disk is opened again: nothing, or what the fault among the calls met.
abbrev pub IsCutOff : Site → List Mode → List Call → List Happening → Type 0
IsCutOff site modes [] more = more ≡ []
IsCutOff site modes (Done event reply ∷ calls) more = IsCutOff site modes calls more
IsCutOff site modes (Folded size ∷ calls) more = IsCutOff site modes calls more
IsCutOff site modes (Stop event halt ∷ calls) more = (more ≡ []) ⊎ IsLost site modes event more
