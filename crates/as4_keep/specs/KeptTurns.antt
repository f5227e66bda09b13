-- What workers do whose guests send several requests each.
use Rattle.std.specs.Prelude.{◌≡◌, ◌⊎◌, ◌<◌, ℕ, zero, suc, Bool, true, false, Option, Some, None}
use Rattle.as4_disk.specs.declared.disk.Disk.{Ghosts as DiskMeaning}
use Rattle.as4_doors.specs.declared.door.DoorKind.{DoorKind}
use Rattle.as4_flow.specs.declared.clock.Clock.{Ghosts as ClockMeaning}
use Rattle.as4_flow.specs.declared.nonces.Nonces.{Ghosts as NoncesMeaning}
use Rattle.as4_host.specs.declared.door.Door.{Ghosts as DoorMeaning}
use Rattle.as4_host.specs.declared.link.Link.{Ghosts as LinkMeaning}
use Rattle.sessions.specs.Answering.{IsSamePass}
use Rattle.sessions.specs.Shared.{IsLegal}
use Rattle.sessions.specs.declared.naming.Opening.{Ghosts as OpeningMeaning}
use Rattle.workers.specs.Bounds.{door_of}
use Rattle.workers.specs.Endings.{goes_on}
use Rattle.workers.specs.Turns.{Finishes, TakesTurn, caller_of}
use Rattle.workers.specs.declared.job.Worker.{Worker}
use Rattle.workers.specs.declared.turn.Turn.{Turn}
use Rattle.as4_keep.specs.KeptGuests.{AtKeptDoor}

module _ {D J W In Out L From To C N : Type 0} (M : DiskMeaning D) (O : OpeningMeaning J) (G : DoorMeaning W In Out) (K : LinkMeaning L From To) (T : ClockMeaning C) (R : NoncesMeaning N) (limit : ℕ) where
  -- a guest was met at the door, and nothing else of the worker was used
  pub record KeepsOnce (kind : DoorKind) (old new : Worker W L C N) (end : Turn) : Type 0 where
    pub meets : AtKeptDoor M O G T R limit kind old.door new.door (caller_of old) (caller_of new) end
    pub link : new.link ≡ old.link
    pub job : new.job ≡ old.job
    pub turns : new.turns ≡ old.turns
    pub starved : new.starved ≡ old.starved

  -- a turn at a door, after which the worker may go on, or its door was closed
  pub record TakesDoorTurn (kind : DoorKind) (old new : Worker W L C N) (goes : Bool) : Type 0 where
    pub middle : Worker W L C N
    pub end : Turn
    pub keeps : KeepsOnce kind old middle end
    pub finishes : Finishes M O G K T R end middle new
    pub goes_is : goes ≡ goes_on end

  -- a turn: at its door, if it has the job to serve guests, and else as in `workers`
  abbrev pub TakesTurnAt : Option DoorKind → Worker W L C N → Worker W L C N → Bool → Type 0
  TakesTurnAt (Some kind) old new goes = TakesDoorTurn kind old new goes
  TakesTurnAt None old new goes = TakesTurn M O G K T R old new goes

  abbrev pub TakesKeptTurn : Worker W L C N → Worker W L C N → Bool → Type 0
  TakesKeptTurn old new goes = TakesTurnAt (door_of old.job) old new goes

  -- this number of turns, one after another
  abbrev pub TakesKeptTurns : ℕ → Worker W L C N → Worker W L C N → Type 0
  TakesKeptTurns zero old new = new ≡ old
  TakesKeptTurns (suc n) old new = (middle : Worker W L C N) × TakesKeptTurns n old middle × TakesKeptTurn middle new true

  -- a worker made all its turns, or found its door closed
  abbrev pub MakesItsKeptTurns : Worker W L C N → Worker W L C N → Type 0
  MakesItsKeptTurns old new =
      TakesKeptTurns old.turns old new
      ⊎ ((n : ℕ) × (middle : Worker W L C N) × (n < old.turns) × TakesKeptTurns n old middle × TakesKeptTurn middle new false)

  -- what a worker did: its turns; and its pass is the same pass, whose calls may still have been made, one after another,
  -- since the office was opened
  pub record KeptWorked (old new : Worker W L C N) : Type 0 where
    pub turns : MakesItsKeptTurns old new
    pub legal : IsLegal O old.pass.list → IsLegal O new.pass.list
    pub pass : IsSamePass old.pass new.pass
