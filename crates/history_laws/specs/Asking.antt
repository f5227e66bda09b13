-- What an office was asked, without its replies.
use Rattle.std.specs.Prelude.{List, [], ◌∷◌, Option}
use Rattle.as4_disk.specs.declared.fault_counts.FaultCounts.{FaultCounts}
use Rattle.exchange_model.specs.declared.event.Event.{Event}
use Rattle.office.specs.declared.call.Call.{Call}
use Rattle.office.specs.declared.call.Call.TheVariants.{Done, Folded, Stop}

-- to handle an event, or to compact its journal; or the disk failed meanwhile, with these counts
pub data Asked : Type 0 where
  Handle : Event → Asked
  Compact : Asked
  Fail : Option Event → FaultCounts → Asked

abbrev pub asked_of : List Call → List Asked
asked_of [] = []
asked_of (Done event r ∷ calls) = Handle event ∷ asked_of calls
asked_of (Folded size ∷ calls) = Compact ∷ asked_of calls
asked_of (Stop event halt ∷ calls) = Fail event halt ∷ asked_of calls
