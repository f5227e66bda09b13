-- What turns of a worker add up to.
use Rattle.std.specs.Prelude.{◌≡◌, ◌⊎◌, ◌+◌, ◌*◌, ◌≤◌, ◌<◌, ◌^◌, ℕ, suc, List, [], ◌∷◌, ◌++◌, Option, Some, None, length, min}
use Rattle.std.specs.List.{AllByRecursion}
use mathlib.Core.List.{IsPrefix}
use Rattle.as4_doors.specs.Asking.{AsksFor}
use Rattle.as4_doors.specs.declared.door.DoorKind.{DoorKind}
use Rattle.as4_doors.specs.declared.door.DoorKind.TheVariants as door
use Rattle.as4_host.specs.Counts.{HasNotRisen}
use Rattle.as4_host.specs.declared.door.Door.{Ghosts as DoorMeaning}
use Rattle.as4_http.specs.Requests.{BeginsRequest}
use Rattle.as4_http.specs.declared.message.Request.{Request}
use Rattle.exchange_model.specs.declared.event.Event.{Event}
use Rattle.exchange_model.specs.declared.what.What.{What}
use Rattle.office.specs.declared.call.Call.{Call}
use Rattle.office.specs.declared.call.Call.TheVariants.{Done, Folded, Stop}
use Rattle.workers.specs.declared.job.Job.{Job}
use Rattle.workers.specs.declared.job.Job.TheVariants as job
use Rattle.workers.specs.declared.job.Worker.{Worker}

-- the door at which a worker serves guests
abbrev pub door_of : Job → Option DoorKind
door_of job.Peer = Some door.Peer
door_of job.Local = Some door.Local
door_of job.Push = None
door_of (job.Pull mode) = None
door_of job.Tick = None

-- the most calls of the office that one turn makes
abbrev pub most_calls : Job → ℕ
most_calls job.Peer = 1
most_calls job.Local = 1
most_calls job.Push = 2
most_calls (job.Pull mode) = 3
most_calls job.Tick = 1

module _ {W L C N : Type 0} where
  -- it has the same job; and what it had for a door, if it isn't at one
  abbrev pub IsKept : Worker W L C N → Worker W L C N → Type 0
  IsKept old new = (new.job ≡ old.job) × (door_of old.job ≡ None → new.door ≡ old.door)

  -- The calls that the pass has seen go on, its share rises by as many calls as the turns may make at most, and no more
  -- turns are counted as starved than were made.
  pub record Grows (turns : ℕ) (old new : Worker W L C N) : Type 0 where
    pub list : IsPrefix old.pass.list new.pass.list
    pub share : old.pass.share ≤ new.pass.share
    pub most : new.pass.share ≤ old.pass.share + turns * most_calls old.job
    pub starved : old.starved ≤ new.starved
    pub starved_most : new.starved ≤ old.starved + turns

-- a guest who sends this asks for something at this door
pub record Asks (kind : DoorKind) (stream : List ℕ) : Type 0 where
  pub request : Request
  pub rest : List ℕ
  pub what : What
  pub begins : BeginsRequest stream request rest
  pub asks : AsksFor kind request what

-- at least this number of the guests ask for something
abbrev pub AskAtLeast : DoorKind → List (List ℕ) → ℕ → Type 0
AskAtLeast kind [] n = n ≡ 0
AskAtLeast kind (stream ∷ streams) n =
    AskAtLeast kind streams n ⊎ ((m : ℕ) × (n ≡ suc m) × Asks kind stream × AskAtLeast kind streams m)

-- the event of a call
abbrev pub event_of : Call → Option Event
event_of (Done event reply) = Some event
event_of (Folded size) = None
event_of (Stop event counts) = event

-- one of the calls has the event of this request
pub record HasEventOf (kind : DoorKind) (request : Request) (calls : List Call) : Type 0 where
  pub before : List Call
  pub call : Call
  pub after : List Call
  pub entered : calls ≡ before ++ call ∷ after
  pub event : Event
  pub is : event_of call ≡ Some event
  pub asked : AsksFor kind request event.what

-- if a guest who sent this asks for something, one of the calls has its event
abbrev pub IsEntered : DoorKind → List Call → List ℕ → Type 0
IsEntered kind calls stream =
    (request : Request) (rest : List ℕ) (what : What) → BeginsRequest stream request rest → AsksFor kind request what
    → HasEventOf kind request calls

module _ {W In Out : Type 0} (G : DoorMeaning W In Out) where
  -- no count of the door has risen
  pub record IsQuiet (door later : W) : Type 0 where
    pub faults : HasNotRisen (G.faults door) (G.faults later)
    pub reads : HasNotRisen (G.reads door) (G.reads later)
    pub writes : HasNotRisen (G.writes door) (G.writes later)

  -- What became of the guests of a door in these turns: the first ones were taken, no more than turns were made. Where no
  -- count of the door has risen, one was taken in each turn while there was one, and each who asks for something made a
  -- call; but for the turns for which memory ran out, and as long as the history isn't full.
  pub record Took {L C N : Type 0} (kind : DoorKind) (turns : ℕ) (all : List (List ℕ)) (door later : W) (old new : Worker W L C N) : Type 0 where
    pub taken : List (List ℕ)
    pub left : List (List ℕ)
    pub were : all ≡ taken ++ left
    pub are : G.guests later ≡ Some left
    pub few : length taken ≤ turns
    pub enough : IsQuiet door later → min turns (length all) + old.starved ≤ length taken + new.starved
    pub made : IsQuiet door later → length new.pass.list < 2 ^ 63 → (n : ℕ) → AskAtLeast kind taken n
        → n + old.pass.share + old.starved ≤ new.pass.share + new.starved
    pub entered : IsQuiet door later → length new.pass.list < 2 ^ 63 → new.starved ≡ old.starved
        → AllByRecursion (IsEntered kind new.pass.list) taken
