-- An office as contracts see it.
use Rattle.std.specs.Prelude.{◌≡◌, ◌<◌, ◌≤◌, ◌^◌, ℕ, List, Option, None, IfSome, length}
use Rattle.as4_disk.specs.Image.{Image}
use Rattle.as4_disk.specs.declared.disk.Disk.{Ghosts as DiskMeaning}
use Rattle.as4_disk.specs.declared.fault_counts.FaultCounts.{FaultCounts}
use Rattle.as4_flow.specs.Flow.{Rose, Told}
use Rattle.mode_values.specs.declared.mode.Mode.{Mode}
use Rattle.inbox.specs.Spots.{Spot}
use Rattle.msh_journal.specs.Payloads.{IsJournalWith}
use Rattle.msh_state.specs.Rooms.{Rooms}
use Rattle.exchange_model.specs.End.{End}
use Rattle.journal.specs.declared.journal.Journal.{Journal}
use Rattle.msh_core.specs.Machine.{Machine}
use Rattle.office.specs.Calls.{stop_of}
use Rattle.office.specs.Left.{IsLeft}
use Rattle.office.specs.declared.call.Call.{Call}
use Rattle.pass_book.specs.States.{Book}

-- Its disk; its endpoint, with the places of the received payloads, the modes, and what there is room for; which opening
-- it is of; and the list of its calls.
pub record OfficeState (D : Type 0) : Type 0 where
  pub disk : D
  pub end : End
  pub places : List Spot
  pub modes : List Mode
  pub rooms : Rooms
  pub book : Book
  pub list : List Call

abbrev pub machine_of : {D : Type 0} → OfficeState D → Machine
machine_of office = record { end = office.end; places = office.places; modes = office.modes; rooms = office.rooms }

-- events are made: there is room for an entry, and no fault of the disk is among the calls
abbrev pub TakesEvents : {D : Type 0} → OfficeState D → Type 0
TakesEvents office = (length office.list < 2 ^ 63) × (stop_of office.list ≡ None)

-- What an office keeps. If a fault is among its calls, it stands still, and the disk is as that call left it. Otherwise
-- its journal is that of its endpoint, with the payloads at their places.
pub record IsInOrder {D : Type 0} (M : DiskMeaning D) (journal : Journal D) (end : End) (places : List Spot) (modes : List Mode) (halt : Option FaultCounts) (list : List Call) : Type 0 where
  pub halted : halt ≡ stop_of list
  pub kept : halt ≡ None → IsJournalWith M end places journal
  pub left : Told (M.seen journal.disk) (λ _. (c : Image) → M.may_leave journal.disk c → IsLeft modes end list c)
  pub counted : IfSome halt (λ at. Rose at.before at.after × (at.after ≤ M.fault_count journal.disk))
