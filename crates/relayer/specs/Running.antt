-- The relaying of the messages of a journal, from its modes file to its end.
use Rattle.std.specs.Prelude.{◌≡◌, ◌≢◌, ◌⊎◌, ℕ, List, Option}
use Rattle.as4_disk.specs.Image.{Image}
use Rattle.as4_disk.specs.declared.disk.Disk.{Ghosts as DiskMeaning}
use Rattle.as4_disk.specs.declared.part.Part.{Part}
use Rattle.as4_flow.specs.Flow.{Rose, Told}
use Rattle.as4_flow.specs.declared.clock.Clock.{Ghosts as ClockMeaning}
use Rattle.as4_flow.specs.declared.nonces.Nonces.{Ghosts as NoncesMeaning}
use Rattle.as4_host.specs.declared.host.Host.{Ghosts as HostMeaning}
use Rattle.as4_values.specs.Texts.{Spells}
use Rattle.handler.specs.Endings.{IsReadingCause}
use Rattle.handler.specs.Handling.{Reads}
use Rattle.handler.specs.Hosts.{Asks, CountsOn, IsStill, file_of, files_of}
use Rattle.handler.specs.Opening.{OpensOffice, OpensStore, SettlesStore}
use Rattle.handler.specs.Stores.{AreModesOf, LeavesStore, Stores}
use Rattle.handler.specs.Working.{IsClosed}
use Rattle.handler.specs.declared.ending.HandlerEnd.{HandlerEnd}
use Rattle.hub_laws.specs.DeliveredThrough.{GoesOn}
use Rattle.journal.specs.Store.{picked_leaf}
use Rattle.mode_values.specs.declared.mode.Mode.{Mode}
use Rattle.msh_recovery.specs.Unfit.{IsNoJournal}
use Rattle.relayer.specs.Ends.{end_unread}
use Rattle.relayer.specs.Relaying.{Moment, RelaysAll}
use Rattle.relayer.specs.declared.ending.RelayRefusal.TheVariants.{NoMode}
use Rattle.relayer.specs.declared.ending.RelayerEnd.{RelayerEnd}
use Rattle.relayer.specs.declared.ending.RelayerEnd.TheVariants.{Refused, NoMemory, HostFault, NotJournal}

-- why a journal wasn't opened
abbrev pub IsOpeningCause : (Image → Type 0) → ℕ → ℕ → RelayerEnd → Type 0
IsOpeningCause Stored before after NoMemory = Unit {0}
IsOpeningCause Stored before after HostFault = Rose before after
IsOpeningCause Stored before after (NotJournal at) = (image : Image) → Stored image → IsNoJournal at (picked_leaf image)
IsOpeningCause Stored before after other = ⊥

-- memory ran out, and nothing was done
abbrev pub LacksMemory : {H : Type 0} → H → H → Option (List ℕ) → Option (List ℕ) → RelayerEnd → Type 0
LacksMemory old new taken later end = (end ≡ NoMemory) × (new ≡ old) × (later ≡ taken)

-- Messages were relayed from this moment on, and the office was closed: its disk, and each chain whose hub is the endpoint
-- at the start goes on to the one that is left, and delivers each message once.
pub record Works {D C N : Type 0} (S : DiskMeaning D) (T : ClockMeaning C) (R : NoncesMeaning N) (mode : List ℕ) (count : ℕ) (start : Moment D C N) (disk : D) (taken later : Option (List ℕ)) (end : RelayerEnd) : Type 0 where
  pub last : Moment D C N
  pub relays : RelaysAll S T R mode count start last taken later end
  pub goes : Told (S.seen start.office.disk) (λ _. GoesOn start.office.end last.office.end)
  pub closed : IsClosed S start.office last.office.list last.office.end disk

module _ {H Store Door Dialer Time Dice DoorIn DoorOut DialerIn DialerOut : Type 0} (M : HostMeaning H Store Door Dialer Time Dice DoorIn DoorOut DialerIn DialerOut) where
  -- only these names were asked for, and only the files of the journal may have changed
  pub record Touches (words : List (List ℕ)) (journal : List ℕ) (old new : H) : Type 0 where
    pub asks : Asks M words old new
    pub counts : CountsOn M old new
    pub files : (p : List ℕ) → ((q : Part) → p ≢ file_of journal q) → M.file new p ≡ M.file old p
    pub guests : (a : List ℕ) → M.guests new a ≡ M.guests old a

  -- the journal wasn't opened, for a cause, and its store was given back
  pub record FailsToOpen (journal : List ℕ) (old new : H) (end : RelayerEnd) : Type 0 where
    pub touches : Touches (files_of journal) journal old new
    pub store : LeavesStore M (λ modes. ⊥) journal old new
    pub cause : IsOpeningCause (Stores M journal old) (M.fault_count old) (M.fault_count new) end

  module _ (S : DiskMeaning Store) (T : ClockMeaning Time) (R : NoncesMeaning Dice) where
    -- the journal was opened by these modes, messages were relayed, and its store was given back
    pub record RelaysOn (journal mode : List ℕ) (count : ℕ) (modes : List Mode) (old new : H) (taken later : Option (List ℕ)) (end : RelayerEnd) : Type 0 where
      pub opened : H
      pub disk : Store
      pub store : OpensStore M S journal old opened disk
      pub start : Moment Store Time Dice
      pub opens : OpensOffice S disk modes start.office start.pass
      pub ready : H
      pub still : IsStill M opened ready
      pub left : Store
      pub works : Works S T R mode count start left taken later end
      pub settles : SettlesStore M S journal ready new left

    -- what happens when the journal is opened
    abbrev pub OpensAndRelays : List ℕ → List ℕ → ℕ → List Mode → H → H → Option (List ℕ) → Option (List ℕ) → RelayerEnd → Type 0
    OpensAndRelays journal mode count modes old new taken later end =
        (FailsToOpen journal old new end × (later ≡ taken)) ⊎ RelaysOn journal mode count modes old new taken later end

    -- what happens with the modes that were read: memory runs out; the mode's name is no text, so no mode has it; the
    -- journal isn't opened; or messages are relayed
    abbrev pub RelaysWith : List ℕ → List ℕ → ℕ → List Mode → H → H → Option (List ℕ) → Option (List ℕ) → RelayerEnd → Type 0
    RelaysWith journal mode count modes old new taken later end =
        LacksMemory old new taken later end
        ⊎ ((end ≡ Refused NoMode) × ((name : List ℕ) → ¬ Spells mode name) × (new ≡ old) × (later ≡ taken))
        ⊎ ((name : List ℕ) × Spells mode name × OpensAndRelays journal name count modes old new taken later end)

    -- what a relaying does: it reads no modes, for a cause; or it goes on with those that it read
    abbrev pub RelaysBy : List ℕ → List ℕ → List ℕ → ℕ → H → H → Option (List ℕ) → Option (List ℕ) → RelayerEnd → Type 0
    RelaysBy modes journal mode count old new taken later end =
        ((ended : HandlerEnd) × IsReadingCause (M.file old modes) (M.fault_count old) (M.fault_count new) ended
        × Reads M modes old new × (end ≡ end_unread ended) × (later ≡ taken))
        ⊎ ((list : List Mode) × (read : H) × AreModesOf (M.file old modes) list × Reads M modes old read
        × RelaysWith journal mode count list read new taken later end)
