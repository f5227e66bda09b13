-- What a line of a script does at an end.
use Rattle.std.specs.Prelude.{ℕ, List, Bool, false, Option, Some, None, option_map, codes, slice_get}
use Rattle.as4_values.specs.declared.message.Message.{Message}
use Rattle.as4_disk.specs.declared.change.Pick.{Pick}
pub use Rattle.drill_world.specs.declared.asked.Asked.{Asked}
use Rattle.drill_script.specs.declared.line.EndName.{EndName}
use Rattle.drill_script.specs.declared.line.EndName.TheVariants as name
use Rattle.exchange_model.specs.Questions.{sent_at}
use Rattle.exchange_model.specs.World.{Left, Right, Site, World, across, speaker_at}
use Rattle.exchange_model.specs.declared.what.What.{What}
use Rattle.exchange_model.specs.declared.what.What.TheVariants as what

abbrev pub site_of : EndName → Site
site_of name.A = Left
site_of other = Right

-- an event at the end's own moment, whose reply isn't lost
abbrev pub asked : EndName → ℕ → What → Asked
asked end number w = record { end = end; what = w; moment = None; lost = false; number = number }

-- what a line does: it sets a mode, asks for an event, or for one that is stopped at a device call with an image of the
-- disk picked, opens the disk of an end again, folds its journal, or only has something said of an end
pub data Doing : Type 0 where
  Sets : Doing
  Does : Asked → Doing
  Stops : ℕ → Pick → Asked → Doing
  Reopens : EndName → Doing
  Folds : EndName → Doing
  Says : EndName → List ℕ → Doing

-- an event that is asked for is stopped
abbrev pub stopped : ℕ → Pick → Doing → Doing
stopped call pick (Does ask) = Stops call pick ask
stopped call pick other = other

-- this message comes, or there is no such package
abbrev pub comes : EndName → Bool → Option Message → Doing
comes end lost None = Says end (codes "no-package")
comes end lost (Some message) = Does (record { end = end; what = what.Came message; moment = None; lost = lost; number = 0 })

-- what became of this submission is asked, or there is no such one
abbrev pub tells : EndName → ℕ → List ℕ → Option (List ℕ) → Doing
tells end number unknown None = Says end unknown
tells end number unknown (Some id) = Does (asked end number (what.Status id))

-- the package of a number that the other end sent
abbrev pub package_for : EndName → ℕ → World → Option Message
package_for end number world = slice_get (speaker_at (across (site_of end)) world).said number

-- the identifier of the end's submission of this number
abbrev pub id_at : EndName → ℕ → World → Option (List ℕ)
id_at end number world =
    option_map (λ s. s.submission.header.id) (sent_at number (speaker_at (site_of end) world).end.sent)
