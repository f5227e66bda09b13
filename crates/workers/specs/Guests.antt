-- The turn of a worker at a door.
use Rattle.std.specs.Prelude.{◌≡◌, ◌≢◌, ◌⊎◌, ◌≤◌, ℕ, List, [], Option, Some, None, is_some}
use Rattle.as4_disk.specs.Faults.{Rises}
use Rattle.as4_disk.specs.declared.disk.Disk.{Ghosts as DiskMeaning}
use Rattle.as4_doors.specs.declared.door.DoorKind.{DoorKind}
use Rattle.as4_flow.specs.declared.clock.Clock.{Ghosts as ClockMeaning}
use Rattle.as4_flow.specs.declared.nonces.Nonces.{Ghosts as NoncesMeaning}
use Rattle.as4_flow.specs.Flow.{Streams, Told}
use Rattle.as4_host.specs.Counts.{raised}
use Rattle.as4_host.specs.Lists.{and_one, first_of, none_of, without_first}
use Rattle.as4_host.specs.declared.door.Door.{Ghosts as DoorMeaning}
use Rattle.office.specs.declared.call.Call.{Call}
use Rattle.pass_book.specs.States.{PassState}
use Rattle.sessions.specs.Sessions.{DrawsBoth, Ends}
use Rattle.sessions.specs.Shared.{AnswersUnder}
use Rattle.sessions.specs.declared.ended.Ended.{Ended}
use Rattle.sessions.specs.declared.naming.Opening.{Ghosts as OpeningMeaning}
use Rattle.workers.specs.Endings.{after_session}
use Rattle.workers.specs.declared.turn.Turn.{Turn}
use Rattle.workers.specs.declared.turn.Turn.TheVariants as turn

-- what a session uses, at one moment: the caller's pass, the clock and the source of nonces
pub record Caller (C N : Type 0) : Type 0 where
  pub pass : PassState Call
  pub clock : C
  pub nonces : N

abbrev pub caller : {C N : Type 0} → PassState Call → C → N → Caller C N
caller pass clock nonces = record { pass = pass; clock = clock; nonces = nonces }

module _ {D J W In Out C N : Type 0} (M : DiskMeaning D) (O : OpeningMeaning J) (G : DoorMeaning W In Out) (T : ClockMeaning C) (R : NoncesMeaning N) where
  -- the first guest came to the door, a session served it, and its connection was settled, which took the response
  pub record ServesGuest (kind : DoorKind) (door later : W) (old new : Caller C N) (end : Ended) : Type 0 where
    pub came : Told (G.guests door) (λ all. all ≢ [])
    pub streams : Streams
    pub left : streams.left ≡ first_of (G.guests door)
    pub taken : streams.taken ≡ none_of (G.guests door)
    pub no_reads : streams.read_faults ≡ 0
    pub no_writes : streams.write_faults ≡ 0
    pub tells : is_some streams.rest ≡ is_some streams.left
    pub ends : Ends (AnswersUnder M O old.pass new.pass) (new.pass ≡ old.pass)
        (DrawsBoth T R old.clock new.clock old.nonces new.nonces)
        ((new.clock ≡ old.clock) × (new.nonces ≡ old.nonces)) kind streams end
    pub guests : G.guests later ≡ without_first (G.guests door)
    pub answered : G.answered later ≡ and_one (G.answered door) streams.later
    pub faults : G.faults later ≡ G.faults door
    pub reads : G.reads later ≡ raised streams.later_read_faults (G.reads door)
    pub writes : G.writes later ≡ raised streams.later_write_faults (G.writes door)
    pub counted : (G.reads door ≤ G.reads later) × (G.writes door ≤ G.writes later)

  -- no guest came
  pub record MeetsNobody (door later : W) (old new : Caller C N) : Type 0 where
    pub guests : G.guests later ≡ G.guests door
    pub answered : G.answered later ≡ G.answered door
    pub reads : G.reads later ≡ G.reads door
    pub writes : G.writes later ≡ G.writes door
    pub same : new ≡ old

  -- a turn at a door, by how it ended
  abbrev pub MeetsGuest : DoorKind → W → W → Caller C N → Caller C N → Turn → Type 0
  MeetsGuest kind door later old new turn.Worked =
      (end : Ended) × ServesGuest kind door later old new end × (after_session end ≡ turn.Worked)
  MeetsGuest kind door later old new turn.Idle =
      MeetsNobody door later old new × Rises (G.faults door) (G.faults later)
  MeetsGuest kind door later old new turn.Starved =
      ((end : Ended) × ServesGuest kind door later old new end × (after_session end ≡ turn.Starved))
      ⊎ (MeetsNobody door later old new × (G.faults later ≡ G.faults door))
  MeetsGuest kind door later old new turn.Closed =
      MeetsNobody door later old new × (G.faults later ≡ G.faults door) × Told (G.guests door) (λ all. all ≡ [])

  -- a turn at a door that there may be
  abbrev pub AtDoor : DoorKind → Option W → Option W → Caller C N → Caller C N → Turn → Type 0
  AtDoor kind (Some door) (Some later) old new ended = MeetsGuest kind door later old new ended
  AtDoor kind (Some door) None old new ended = ⊥
  AtDoor kind None later old new ended = (later ≡ None) × (new ≡ old) × (ended ≡ turn.Closed)
