-- The turn of a worker at a door whose guests send several requests each.
use Rattle.std.specs.Prelude.{◌≡◌, ◌≢◌, ◌⊎◌, ◌≤◌, ℕ, [], Option, Some, None, is_some}
use Rattle.as4_disk.specs.Faults.{Rises}
use Rattle.as4_disk.specs.declared.disk.Disk.{Ghosts as DiskMeaning}
use Rattle.as4_doors.specs.declared.door.DoorKind.{DoorKind}
use Rattle.as4_flow.specs.declared.clock.Clock.{Ghosts as ClockMeaning}
use Rattle.as4_flow.specs.declared.nonces.Nonces.{Ghosts as NoncesMeaning}
use Rattle.as4_flow.specs.Flow.{Flow, Told}
use Rattle.as4_host.specs.Counts.{raised}
use Rattle.as4_host.specs.Lists.{and_one, first_of, none_of, without_first}
use Rattle.as4_host.specs.declared.door.Door.{Ghosts as DoorMeaning}
use Rattle.sessions.specs.declared.naming.Opening.{Ghosts as OpeningMeaning}
use Rattle.workers.specs.Endings.{after_session}
use Rattle.workers.specs.Guests.{Caller, MeetsNobody}
use Rattle.workers.specs.declared.turn.Turn.{Turn}
use Rattle.workers.specs.declared.turn.Turn.TheVariants as turn
use Rattle.as4_keep.specs.Connections.{Keeps, Moment}
use Rattle.as4_keep.specs.declared.keep_end.KeepEnd.{KeepEnd}
use Rattle.as4_keep.specs.declared.keep_end.KeepEnd.TheVariants.{Closed, Broken}

-- how a turn goes on after a connection: as after a session that ended like the request at which the connection broke
abbrev pub after_connection : KeepEnd → Turn
after_connection (Closed served) = turn.Worked
after_connection (Broken served end) = after_session end

-- a connection of this caller, at one moment
abbrev pub connection : {C N : Type 0} → Caller C N → Flow → Moment C N
connection by at = record { caller = by; flow = at }

module _ {D J W In Out C N : Type 0} (M : DiskMeaning D) (O : OpeningMeaning J) (G : DoorMeaning W In Out) (T : ClockMeaning C) (R : NoncesMeaning N) (limit : ℕ) where
  -- the first guest came to the door, its requests were served, and its connection was settled
  pub record KeepsGuest (kind : DoorKind) (door later : W) (old new : Caller C N) (end : KeepEnd) : Type 0 where
    pub came : Told (G.guests door) (λ all. all ≢ [])
    pub start : Flow
    pub finish : Flow
    pub left : start.left ≡ first_of (G.guests door)
    pub taken : start.taken ≡ none_of (G.guests door)
    pub no_reads : start.reads ≡ 0
    pub no_writes : start.writes ≡ 0
    pub tells : is_some finish.left ≡ is_some start.left
    pub keeps : Keeps M O T R kind limit (connection old start) (connection new finish) end
    pub guests : G.guests later ≡ without_first (G.guests door)
    pub answered : G.answered later ≡ and_one (G.answered door) finish.taken
    pub faults : G.faults later ≡ G.faults door
    pub reads : G.reads later ≡ raised finish.reads (G.reads door)
    pub writes : G.writes later ≡ raised finish.writes (G.writes door)
    pub counted : (G.reads door ≤ G.reads later) × (G.writes door ≤ G.writes later)

  -- a turn at a door, by how it ended
  abbrev pub MeetsKeptGuest : DoorKind → W → W → Caller C N → Caller C N → Turn → Type 0
  MeetsKeptGuest kind door later old new turn.Worked =
      (end : KeepEnd) × KeepsGuest kind door later old new end × (after_connection end ≡ turn.Worked)
  MeetsKeptGuest kind door later old new turn.Idle =
      MeetsNobody M O G T R door later old new × Rises (G.faults door) (G.faults later)
  MeetsKeptGuest kind door later old new turn.Starved =
      ((end : KeepEnd) × KeepsGuest kind door later old new end × (after_connection end ≡ turn.Starved))
      ⊎ (MeetsNobody M O G T R door later old new × (G.faults later ≡ G.faults door))
  MeetsKeptGuest kind door later old new turn.Closed =
      MeetsNobody M O G T R door later old new × (G.faults later ≡ G.faults door) × Told (G.guests door) (λ all. all ≡ [])

  -- a turn at a door that there may be
  abbrev pub AtKeptDoor : DoorKind → Option W → Option W → Caller C N → Caller C N → Turn → Type 0
  AtKeptDoor kind (Some door) (Some later) old new ended = MeetsKeptGuest kind door later old new ended
  AtKeptDoor kind (Some door) None old new ended = ⊥
  AtKeptDoor kind None later old new ended = (later ≡ None) × (new ≡ old) × (ended ≡ turn.Closed)
