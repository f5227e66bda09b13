-- What a handler opens.
use Rattle.std.specs.Prelude.{◌≡◌, ◌≢◌, ◌≤◌, ◌^◌, ℕ, List, [], ◌∷◌, Some, is_some, option_map}
use Rattle.as4_disk.specs.Image.{Image}
use Rattle.as4_disk.specs.declared.disk.Disk.{Ghosts as DiskMeaning}
use Rattle.as4_disk.specs.declared.part.Part.{Part}
use Rattle.as4_flow.specs.Flow.{Told}
use Rattle.as4_host.specs.Files.{bytes_in, made, part_of}
use Rattle.as4_host.specs.Counts.{raised}
use Rattle.as4_host.specs.Lists.{and_all, none_of}
use Rattle.as4_host.specs.declared.door.Door.{Ghosts as DoorMeaning}
use Rattle.as4_host.specs.declared.host.Host.{Ghosts as HostMeaning}
use Rattle.handler.specs.Crews.{IsNew}
use Rattle.handler.specs.Endings.{IsOpeningCause}
use Rattle.handler.specs.Hosts.{Touches, file_of, files_of}
use Rattle.handler.specs.Stores.{BeginsWith, LeavesStore, Stores}
use Rattle.handler.specs.declared.ending.HandlerEnd.{HandlerEnd}
use Rattle.handler.specs.declared.setup.Setup.{Setup}
use Rattle.mode_values.specs.declared.mode.Mode.{Mode}
use Rattle.msh_recovery.specs.Opens.{KeepsEnd}
use Rattle.office.specs.State.{OfficeState}
use Rattle.office.specs.declared.call.Call.{Call}
use Rattle.pass_book.specs.States.{PassState}

-- an office was opened on a disk, with a pass that has all stakes
pub record OpensOffice {D : Type 0} (S : DiskMeaning D) (disk : D) (modes : List Mode) (office : OfficeState D) (pass : PassState Call) : Type 0 where
  pub list : office.list ≡ []
  pub modes_are : office.modes ≡ modes
  pub pass_is : pass ≡ record { book = office.book; list = []; share = 0; stake = 2 ^ 63 }
  pub begins : Told (S.seen disk) (λ image. BeginsWith image office.end)
  pub safe : KeepsEnd S office.disk office.end
  pub fine : S.fault_count office.disk ≡ S.fault_count disk
  pub tells : is_some (S.seen office.disk) ≡ is_some (S.seen disk)

module _ {H Store Door Dialer Time Dice DoorIn DoorOut DialerIn DialerOut : Type 0} (M : HostMeaning H Store Door Dialer Time Dice DoorIn DoorOut DialerIn DialerOut) where
  -- a handler's call for something left it unopened, for a cause, and all that was opened was given back
  pub record FailsToOpen (setup : Setup) (old new : H) (end : HandlerEnd) : Type 0 where
    pub touches : Touches M setup old new
    pub guests : (a : List ℕ) → M.guests new a ≡ M.guests old a
    pub store : LeavesStore M (λ modes. ⊥) setup.journal.now old new
    pub cause : IsOpeningCause (Stores M setup.journal.now old) (M.fault_count old) (M.fault_count new) end

  module _ (G : DoorMeaning Door DoorIn DoorOut) where
    -- the host opened the door at an address, which has the guests of the address
    pub record OpensDoor (address : List ℕ) (old new : H) (door : Door) : Type 0 where
      pub is_new : IsNew G door
      pub guests_are : G.guests door ≡ M.guests old address
      pub taken : M.guests new address ≡ none_of (M.guests old address)
      pub guests : (a : List ℕ) → a ≢ address → M.guests new a ≡ M.guests old a
      pub names : M.names new ≡ and_all (M.names old) (Some (address ∷ []))
      pub files : (p : List ℕ) → M.file new p ≡ M.file old p
      pub faults : M.fault_count new ≡ M.fault_count old
      pub reads : M.reads new ≡ M.reads old
      pub writes : M.writes new ≡ M.writes old

    -- both doors were opened
    pub record OpensDoors (setup : Setup) (old new : H) (peer local : Door) : Type 0 where
      pub first : H
      pub at_peer : OpensDoor setup.peer.now old first peer
      pub at_local : OpensDoor setup.local.now first new local

  module _ (S : DiskMeaning Store) where
    -- the host opened the store of a journal: its disk reads what its files have
    pub record OpensStore (journal : List ℕ) (old new : H) (disk : Store) : Type 0 where
      pub fresh : S.fault_count disk ≡ 0
      pub seen : (q : Part) → part_of q (S.seen disk) ≡ bytes_in (M.file old (file_of journal q))
      pub only : Told (S.seen disk) (λ image. (c : Image) → S.may_leave disk c → (q : Part) → c q ≡ image q)
      pub files_are : (q : Part) → M.file new (file_of journal q) ≡ made (M.file old (file_of journal q))
      pub names : M.names new ≡ and_all (M.names old) (Some (files_of journal))
      pub files : (p : List ℕ) → ((q : Part) → p ≢ file_of journal q) → M.file new p ≡ M.file old p
      pub guests : (a : List ℕ) → M.guests new a ≡ M.guests old a
      pub faults : M.fault_count new ≡ M.fault_count old
      pub reads : M.reads new ≡ M.reads old
      pub writes : M.writes new ≡ M.writes old

    -- the host took the store of a journal back: its files have what the disk reads
    pub record SettlesStore (journal : List ℕ) (old new : H) (disk : Store) : Type 0 where
      pub kept : (q : Part) → M.file new (file_of journal q) ≡ option_map Some (part_of q (S.seen disk))
      pub faults : M.fault_count new ≡ raised (S.fault_count disk) (M.fault_count old)
      pub counted : M.fault_count old ≤ M.fault_count new
      pub files : (p : List ℕ) → ((q : Part) → p ≢ file_of journal q) → M.file new p ≡ M.file old p
      pub guests : (a : List ℕ) → M.guests new a ≡ M.guests old a
      pub names : M.names new ≡ M.names old
      pub reads : M.reads new ≡ M.reads old
      pub writes : M.writes new ≡ M.writes old

    -- the store was opened, and an office on it
    pub record OpensOfficeOn (journal : List ℕ) (modes : List Mode) (old new : H) (office : OfficeState Store) (pass : PassState Call) : Type 0 where
      pub disk : Store
      pub store : OpensStore journal old new disk
      pub opens : OpensOffice S disk modes office pass

    -- both doors were opened, and then the office
    pub record OpensAll (G : DoorMeaning Door DoorIn DoorOut) (setup : Setup) (modes : List Mode) (old new : H) (peer local : Door) (office : OfficeState Store) (pass : PassState Call) : Type 0 where
      pub middle : H
      pub at_doors : OpensDoors G setup old middle peer local
      pub on_store : OpensOfficeOn setup.journal.now modes middle new office pass
