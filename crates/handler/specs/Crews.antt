-- The workers of a handler, and what their turns make.
use Rattle.std.specs.Prelude.{◌≡◌, ◌≢◌, ◌⊎◌, ◌+◌, ◌-◌, ◌≤◌, ◌<◌, ◌^◌, ℕ, List, [], ◌∷◌, ◌++◌, Option, Some, None, All, is_some, length, map, replicate}
use Rattle.std.specs.declared.marker.Brand.{Brand}
use Rattle.as4_disk.specs.declared.disk.Disk.{Ghosts as DiskMeaning}
use Rattle.as4_doors.specs.declared.door.DoorKind.{DoorKind}
use Rattle.as4_doors.specs.declared.door.DoorKind.TheVariants as door
use Rattle.as4_flow.specs.declared.clock.Clock.{Ghosts as ClockMeaning}
use Rattle.as4_flow.specs.declared.nonces.Nonces.{Ghosts as NoncesMeaning}
use Rattle.as4_host.specs.Lists.{none_of}
use Rattle.as4_host.specs.declared.door.Door.{Ghosts as DoorMeaning}
use Rattle.as4_host.specs.declared.link.Link.{Ghosts as LinkMeaning}
use Rattle.as4_keep.specs.KeptBounds.{GrowsKept}
use Rattle.as4_keep.specs.KeptTurns.{KeptWorked}
use Rattle.office.specs.declared.call.Call.{Call}
use Rattle.pass_book.specs.States.{Book, PassState}
use Rattle.office.specs.State.{OfficeState}
use Rattle.sessions.specs.Answering.{IsSamePass}
use Rattle.sessions.specs.declared.naming.Opening.{Ghosts as OpeningMeaning}
use Rattle.workers.specs.Bounds.{IsKept, Took, door_of}
use Rattle.workers.specs.Turns.{Worked}
use Rattle.workers.specs.declared.job.Job.{Job}
use Rattle.workers.specs.declared.job.Job.TheVariants as job
use Rattle.workers.specs.declared.job.Worker.{Worker}

-- one worker pulls by each of these modes
abbrev pub pulls_by : List (List ℕ) → List Job
pulls_by pulls = map job.Pull pulls

-- one worker pulls by each of these modes, one pushes, one sets the clock, one serves local applications, and this many
-- serve partners
abbrev pub jobs_of : List (List ℕ) → ℕ → List Job
jobs_of pulls peers =
    pulls_by pulls ++ (job.Push ∷ job.Tick ∷ (replicate (peers - 1) job.Peer ++ (job.Local ∷ job.Peer ∷ [])))

-- nothing failed at this door yet
abbrev pub IsNew : {W In Out : Type 0} → DoorMeaning W In Out → W → Type 0
IsNew G door = (G.faults door ≡ 0) × (G.reads door ≡ 0) × (G.writes door ≡ 0)

-- a pass gave away this many of its stakes
abbrev pub Splits : ℕ → PassState Call → PassState Call → Type 0
Splits count old new = (new ≡ record old { stake = new.stake }) × (new.stake + count ≡ old.stake)

module _ {W L C N : Type 0} where
  -- its pass is of this opening
  abbrev pub IsOfBook : Book → Worker W L C N → Type 0
  IsOfBook book w = w.pass.book ≡ book

  -- the workers' jobs
  abbrev pub jobs_in : List (Worker W L C N) → List Job
  jobs_in workers = map (λ (w : Worker W L C N). w.job) workers

  -- a worker with this number of turns, which made none yet, and a pass of its own, which has seen nothing
  pub record IsHired (book : Book) (turns : ℕ) (w : Worker W L C N) : Type 0 where
    pub here : w.pass.book ≡ book
    pub list : w.pass.list ≡ []
    pub share : w.pass.share ≡ 0
    pub stake : w.pass.stake ≡ 1
    pub turns_are : w.turns ≡ turns
    pub fresh : w.starved ≡ 0

  module _ {In Out : Type 0} (G : DoorMeaning W In Out) where
    -- a worker at a door with these guests, where nothing failed yet
    pub record StandsAt (kind : DoorKind) (guests : Option (List (List ℕ))) (w : Worker W L C N) : Type 0 where
      pub at : door_of w.job ≡ Some kind
      pub door : W
      pub is : w.door ≡ Some door
      pub guests_are : G.guests door ≡ guests
      pub is_new : IsNew G door

    -- a worker that has no door; or one that shares the partners' entrance, whose guests are another's
    abbrev pub IsAside : Option (List (List ℕ)) → Worker W L C N → Type 0
    IsAside peers w = ((door_of w.job ≡ None) × (w.door ≡ None)) ⊎ StandsAt door.Peer (none_of peers) w

    -- these workers were hired besides, with these jobs, none of which has guests of its own
    pub record HiresAside (turns : ℕ) (peers : Option (List (List ℕ))) (old new : PassState Call) (jobs : List Job) (more : List (Worker W L C N)) : Type 0 where
      pub hired : All (IsHired old.book turns) more
      pub aside : All (IsAside peers) more
      pub jobs_are : jobs_in more ≡ jobs
      pub splits : Splits (length more) old new

    -- All workers of a handler. The last two have the guests: those of the local applications, and those of the partners.
    pub record IsCrew (book : Book) (turns : ℕ) (peers locals : Option (List (List ℕ))) (crew : List (Worker W L C N)) : Type 0 where
      pub others : List (Worker W L C N)
      pub local : Worker W L C N
      pub peer : Worker W L C N
      pub are : crew ≡ others ++ local ∷ peer ∷ []
      pub hired : All (IsHired book turns) crew
      pub aside : All (IsAside peers) others
      pub at_local : StandsAt door.Local locals local
      pub at_peer : StandsAt door.Peer peers peer

    -- what a worker's turns made, whatever the office was, where at most `keep` requests of one connection are answered
    pub record MadeTurns (keep : ℕ) (old new : Worker W L C N) : Type 0 where
      -- at a door a turn makes at most `keep` calls
      pub grows : GrowsKept keep old.turns old new
      pub kept : IsKept old new
      pub pass : IsSamePass old.pass new.pass
      -- one that pushes, pulls or sets the clock made a call in each turn, but for those that are counted as starved
      pub makes : door_of old.job ≡ None → length new.pass.list < 2 ^ 63
          → old.turns + old.pass.share + old.starved ≤ new.pass.share + new.starved
      -- one at a door took the first guests
      pub took : (kind : DoorKind) (from : W) (all : List (List ℕ)) → door_of old.job ≡ Some kind → old.door ≡ Some from
          → G.guests from ≡ Some all → (later : W) × (new.door ≡ Some later) × Took G kind old.turns all from later old new

    -- each of them did
    abbrev pub AllMadeTurns : ℕ → List (Worker W L C N) → List (Worker W L C N) → Type 0
    AllMadeTurns keep [] [] = Unit {0}
    AllMadeTurns keep [] (new ∷ news) = ⊥
    AllMadeTurns keep (old ∷ olds) [] = ⊥
    AllMadeTurns keep (old ∷ olds) (new ∷ news) = MadeTurns keep old new × AllMadeTurns keep olds news

module _ {D W In Out L From To C N : Type 0} (S : DiskMeaning D) (G : DoorMeaning W In Out) (K : LinkMeaning L From To) (T : ClockMeaning C) (R : NoncesMeaning N) (keep : ℕ) where
  -- a worker took its turns: with one request of each guest as in `workers`, and with more as in `as4_keep`
  abbrev pub TookTurns : {J : Type 0} → OpeningMeaning J → Worker W L C N → Worker W L C N → Type 0
  TookTurns O old new = ((keep ≡ 1) × Worked S O G K T R old new) ⊎ ((keep ≢ 1) × KeptWorked S O G K T R keep old new)

  -- each of them did
  abbrev pub AllTookTurns : {J : Type 0} → OpeningMeaning J → List (Worker W L C N) → List (Worker W L C N) → Type 0
  AllTookTurns O [] [] = Unit {0}
  AllTookTurns O [] (new ∷ news) = ⊥
  AllTookTurns O (old ∷ olds) [] = ⊥
  AllTookTurns O (old ∷ olds) (new ∷ news) = TookTurns O old new × AllTookTurns O olds news

  -- the opening that this office is of, where it was just opened
  abbrev pub opening_of : OfficeState D → OpeningMeaning Brand
  opening_of office = record { book = office.book; modes = office.modes; start = office.end; observable = is_some (S.seen office.disk) }

  -- each of them did, over this office
  abbrev pub WorkedOver : OfficeState D → List (Worker W L C N) → List (Worker W L C N) → Type 0
  WorkedOver office olds news = AllTookTurns (opening_of office) olds news
