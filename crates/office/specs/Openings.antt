-- Openings of one office, each of what a crash left of the one before.
use Rattle.std.specs.Prelude.{◌≡◌, List, [], ◌∷◌, ◌++◌}
use Rattle.as4_disk.specs.Image.{Image}
use Rattle.mode_values.specs.declared.mode.Mode.{Mode}
use Rattle.msh_recovery.specs.Opens.{ReadsAs}
use Rattle.exchange_model.specs.End.{End}
use Rattle.exchange_model.specs.World.{Happening, Site}
use Rattle.office.specs.Calls.{Leads}
use Rattle.office.specs.Happened.{Happened, IsCutOff}
use Rattle.office.specs.Left.{IsLeft}
use Rattle.office.specs.declared.call.Call.{Call}

-- under which modes the office was opened, its calls, and the disk that a crash left
pub record Opening : Type 0 where
  pub modes : List Mode
  pub calls : List Call
  pub left : Image

-- From the first end the calls of each lead on, and those of the next from the end that the disk reads as which it left. So
-- the last disk reads as the last end; without openings both ends are one.
abbrev pub LeadsOver : List Opening → End → End → Type 0
LeadsOver [] start end = start ≡ end
LeadsOver (opening ∷ later) start end =
    (here : End) × Leads opening.modes start opening.calls here × IsLeft opening.modes here opening.calls opening.left
    × (next : End) × ReadsAs opening.left next × LeadsOver later next end

-- What happened at this site over the openings and the calls behind the last: what the calls of each did, what was found
-- done besides when the next was opened, and what the last calls did.
abbrev pub HappenedOver : Site → List Opening → List Mode → List Call → List Happening → Type 0
HappenedOver site [] modes calls all = Happened site modes calls all
HappenedOver site (opening ∷ later) modes calls all =
    (did : List Happening) × (more : List Happening) × (rest : List Happening)
    × Happened site opening.modes opening.calls did × IsCutOff site opening.modes opening.calls more
    × HappenedOver site later modes calls rest × (all ≡ did ++ more ++ rest)
