-- What a run with threads does: each task, that of a handler too.
use Rattle.std.specs.Prelude.{◌≡◌, ◌≢◌, ◌≤◌, ◌^◌, ◌⊎◌, ℕ, List, [], ◌∷◌, All, Option, Some}
use Rattle.std.specs.Str.{IsUtf8}
use Rattle.as4_disk.specs.Image.{Image}
use Rattle.as4_disk.specs.declared.disk.Disk.{Ghosts as DiskMeaning}
use Rattle.as4_flow.specs.Flow.{TakesFront}
use Rattle.as4_flow.specs.declared.clock.Clock.{Ghosts as ClockMeaning}
use Rattle.as4_flow.specs.declared.nonces.Nonces.{Ghosts as NoncesMeaning}
use Rattle.as4_flow.specs.declared.sink.Sink.{Ghosts as SinkMeaning}
use Rattle.as4_flow.specs.declared.source.Source.{Ghosts as SourceMeaning}
use Rattle.as4_host.specs.Counts.{HasNotRisen}
use Rattle.as4_host.specs.declared.door.Door.{Ghosts as DoorMeaning}
use Rattle.as4_host.specs.declared.host.Host.{Ghosts as HostMeaning}
use Rattle.as4_host.specs.declared.link.Link.{Ghosts as LinkMeaning}
use Rattle.as4_tool.specs.Command.{Spells, Task, handler}
use Rattle.as4_tool.specs.Runs.{IsIdle, Runs}
use Rattle.as4_tool.specs.Status.{IsOneOf, status_of_handler}
use Rattle.as4_tool.specs.declared.status.Status.{Status}
use Rattle.as4_tool.specs.declared.status.Status.TheVariants.{BadWords, NoMemory}
use Rattle.exchange_model.specs.End.{End}
use Rattle.handler.specs.Announcing.{line_of}
use Rattle.handler.specs.Endings.{IsCause, IsJudged, IsUnserved}
use Rattle.handler.specs.Handling.{Ends, Serves}
use Rattle.handler.specs.Hosts.{Touches}
use Rattle.handler.specs.Served.{Delivers, IsQuiet}
use Rattle.handler.specs.Stores.{AreModesOf, LeavesStore, Stores}
use Rattle.handler.specs.declared.ending.HandlerEnd.{HandlerEnd}
use Rattle.handler.specs.declared.ending.HandlerEnd.TheVariants as ending
use Rattle.handler.specs.declared.setup.Setup.{Setup}

-- these words spell a command
abbrev pub SpellTask : List (List ℕ) → Type 0
SpellTask words = All IsUtf8 words × ((task : Task) × Spells words task)

-- the setup of a handler with these words
pub record IsSetup (modes journal peer local : List ℕ) (workers turns keep : ℕ) (setup : Setup) : Type 0 where
  pub modes_are : setup.modes.now ≡ modes
  pub journal_is : setup.journal.now ≡ journal
  pub peer_is : setup.peer.now ≡ peer
  pub local_is : setup.local.now ≡ local
  pub workers_are : setup.workers ≡ workers
  pub turns_are : setup.turns ≡ turns
  pub keep_is : setup.keep ≡ keep

module _ {H Store Door Dialer Time Dice DoorIn DoorOut DialerIn DialerOut : Type 0} (M : HostMeaning H Store Door Dialer Time Dice DoorIn DoorOut DialerIn DialerOut)
    (G : DoorMeaning Door DoorIn DoorOut) (K : LinkMeaning Dialer DialerIn DialerOut) (D : DiskMeaning Store) (T : ClockMeaning Time) (R : NoncesMeaning Dice) where
  -- a handler with this setup came to this end, and did this to its host and to the sink of its line
  pub record Handled (setup : Setup) (end : HandlerEnd) (told later : Option (List ℕ)) (old new : H) : Type 0 where
    pub ends : (before : HandlerEnd) × Ends M G K D T R setup told later old new before × IsJudged before (M.fault_count old) (M.fault_count new) end
    pub touches : Touches M setup old new
    pub store : LeavesStore M (AreModesOf (M.file old setup.modes.now)) setup.journal.now old new
    pub cause : IsCause (M.file old setup.modes.now) (Stores M setup.journal.now old) (M.fault_count old) (M.fault_count new) end
    pub calm : end ≢ ending.NoMemory → end ≢ ending.HostFault → HasNotRisen (M.fault_count old) (M.fault_count new)
    pub guests : IsUnserved end → (a : List ℕ) → M.guests new a ≡ M.guests old a
    pub serves : end ≡ ending.Served → Serves M G K D T R setup told later old new
    pub delivers : end ≡ ending.Served → IsQuiet M old new → setup.turns ≤ 2 ^ 49 → setup.peer.now ≢ setup.local.now
        → (peers locals : List (List ℕ)) (before : Image)
        → M.guests old setup.peer.now ≡ Some peers → M.guests old setup.local.now ≡ Some locals
        → Stores M setup.journal.now old before → Delivers M setup old new peers locals before
    pub line : (here : End) × TakesFront (line_of setup here) told later
    pub silent : IsUnserved end → later ≡ told

  -- a run of a handler with these words: how it ended, what it did, and its status
  pub record RunsHandler (modes journal peer local : List ℕ) (workers turns keep : ℕ) (status : Status) (told later : Option (List ℕ)) (old new : H) : Type 0 where
    pub setup : Setup
    pub is : IsSetup modes journal peer local workers turns keep setup
    pub end : HandlerEnd
    pub status_is : status ≡ status_of_handler end
    pub handled : Handled setup end told later old new

  module _ {I O E : Type 0} (S : SourceMeaning I) (W : SinkMeaning O) (X : SinkMeaning E) where
    -- what a run of any task does: a handler writes a line of its own to the errors, any other task none
    abbrev pub RunsAny : Task → Status → I → I → O → O → E → E → H → H → Type 0
    RunsAny (handler modes journal peer local workers turns keep) status input later output after errors told old new =
        RunsHandler modes journal peer local workers turns keep status (X.taken errors) (X.taken told) old new
        × (X.faults errors ≤ X.faults told) × (later ≡ input) × (after ≡ output)
    RunsAny task status input later output after errors told old new =
        Runs S W M K D T R task status input later output after old new × (told ≡ errors)

    -- the words were read and their task was done; or they spell none, or there was no memory to read them
    abbrev pub ObeysAny : List (List ℕ) → Status → I → I → O → O → E → E → H → H → Type 0
    ObeysAny words status input later output after errors told old new =
        ((task : Task) × Spells words task × RunsAny task status input later output after errors told old new)
        ⊎ (IsOneOf (NoMemory ∷ BadWords ∷ []) status × IsIdle S W M K D T R input later output after old new × (told ≡ errors))
