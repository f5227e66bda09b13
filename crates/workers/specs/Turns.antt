-- What workers do.
use Rattle.std.specs.Prelude.{◌≡◌, ◌⊎◌, ◌+◌, ◌<◌, ℕ, zero, suc, Bool, true, false, Option, Result}
use Rattle.as4_disk.specs.declared.disk.Disk.{Ghosts as DiskMeaning}
use Rattle.as4_doors.specs.declared.door.DoorKind.TheVariants as door
use Rattle.as4_flow.specs.Draws.{Draws}
use Rattle.as4_flow.specs.declared.clock.Clock.{Ghosts as ClockMeaning}
use Rattle.as4_flow.specs.declared.nonces.Nonces.{Ghosts as NoncesMeaning}
use Rattle.as4_host.specs.declared.door.Door.{Ghosts as DoorMeaning}
use Rattle.as4_host.specs.declared.link.Link.{Ghosts as LinkMeaning}
use Rattle.exchange_model.specs.declared.reply.Reply.{Reply}
use Rattle.office.specs.declared.fault.OfficeFault.{OfficeFault}
use Rattle.pass_book.specs.States.{Book}
use Rattle.rounds.specs.Rounds.{PullsBy, Pushes, Using, using}
use Rattle.rounds.specs.declared.pulling.Pulled.{Pulled}
use Rattle.sessions.specs.Answering.{IsSamePass}
use Rattle.sessions.specs.Shared.{IsLegal, TellsTick, TicksUnder}
use Rattle.sessions.specs.declared.naming.Opening.{Ghosts as OpeningMeaning}
use Rattle.sessions.specs.declared.rounds.RoundEnd.{RoundEnd}
use Rattle.workers.specs.Endings.{after_pull, after_push, goes_on}
use Rattle.workers.specs.Guests.{AtDoor, Caller, caller}
use Rattle.workers.specs.declared.job.Job.{Job}
use Rattle.workers.specs.declared.job.Job.TheVariants as job
use Rattle.workers.specs.declared.job.Worker.{Worker}
use Rattle.workers.specs.declared.turn.Turn.{Turn}
use Rattle.workers.specs.declared.turn.Turn.TheVariants as turn

module _ {W L C N : Type 0} where
  -- a worker's part of what a round uses, and of what a session uses
  abbrev pub used_by : Worker W L C N → Using L C N
  used_by w = using w.pass w.link w.clock w.nonces

  abbrev pub caller_of : Worker W L C N → Caller C N
  caller_of w = caller w.pass w.clock w.nonces

  -- a worker that made no turn yet, with a pass of this opening
  pub record IsReady (book : Book) (w : Worker W L C N) : Type 0 where
    pub here : w.pass.book ≡ book
    pub fresh : w.starved ≡ 0

module _ {D J W In Out L From To C N : Type 0} (M : DiskMeaning D) (O : OpeningMeaning J) (G : DoorMeaning W In Out) (K : LinkMeaning L From To) (T : ClockMeaning C) (R : NoncesMeaning N) where
  -- a guest was met at the door, and the link wasn't used
  pub record ServesAt (kind : _) (old new : Worker W L C N) (end : Turn) : Type 0 where
    pub meets : AtDoor M O G T R kind old.door new.door (caller_of old) (caller_of new) end
    pub link : new.link ≡ old.link

  -- a round was made that pushes, and the door wasn't used
  pub record PushesOnce (old new : Worker W L C N) (end : Turn) : Type 0 where
    pub by : RoundEnd
    pub pushes : Pushes M O K T R (used_by old) (used_by new) by
    pub ended : end ≡ after_push by
    pub door : new.door ≡ old.door

  -- a round that pulls
  pub record PullsOnce (mode : _) (old new : Worker W L C N) (end : Turn) : Type 0 where
    pub by : Pulled
    pub pulls : PullsBy M O K T R mode (used_by old) (used_by new) by
    pub ended : end ≡ after_pull by
    pub door : new.door ≡ old.door

  -- the clock of the endpoint was set to the moment that was drawn; the worker then rests
  pub record TicksOnce (old new : Worker W L C N) (end : Turn) : Type 0 where
    pub result : Result Reply OfficeFault
    pub by : RoundEnd
    pub ticks : TicksUnder M O old.pass new.pass (T.last new.clock) result
    pub tells : TellsTick result by
    pub moment : Draws (T.last new.clock) (T.to_come old.clock) (T.to_come new.clock)
    pub ended : end ≡ turn.Idle
    pub door : new.door ≡ old.door
    pub link : new.link ≡ old.link
    pub nonces : new.nonces ≡ old.nonces

  -- what a worker with this job does in a turn
  abbrev pub Does : Job → Worker W L C N → Worker W L C N → Turn → Type 0
  Does job.Peer old new end = ServesAt door.Peer old new end
  Does job.Local old new end = ServesAt door.Local old new end
  Does job.Push old new end = PushesOnce old new end
  Does (job.Pull mode) old new end = PullsOnce mode old new end
  Does job.Tick old new end = TicksOnce old new end

  -- it does that, and keeps its job and its numbers
  pub record Makes (old new : Worker W L C N) (end : Turn) : Type 0 where
    pub does : Does old.job old new end
    pub job : new.job ≡ old.job
    pub turns : new.turns ≡ old.turns
    pub starved : new.starved ≡ old.starved

  -- the worker rests, and nothing else changes
  pub record Rests (old new : Worker W L C N) : Type 0 where
    pub same : new ≡ record old { clock = new.clock }
    pub last : T.last new.clock ≡ T.last old.clock
    pub to_come : (k : ℕ) → T.to_come new.clock k ≡ T.to_come old.clock k

  -- how a turn is finished: one for which memory ran out is counted
  abbrev pub Finishes : Turn → Worker W L C N → Worker W L C N → Type 0
  Finishes turn.Worked old new = new ≡ old
  Finishes turn.Idle old new = Rests old new
  Finishes turn.Starved old new = Rests (record old { starved = old.starved + 1 }) new
  Finishes turn.Closed old new = new ≡ old

  -- a turn, after which the worker may go on, or its door was closed
  pub record TakesTurn (old new : Worker W L C N) (goes : Bool) : Type 0 where
    pub middle : Worker W L C N
    pub end : Turn
    pub makes : Makes old middle end
    pub finishes : Finishes end middle new
    pub goes_is : goes ≡ goes_on end

  -- this number of turns, one after another
  abbrev pub TakesTurns : ℕ → Worker W L C N → Worker W L C N → Type 0
  TakesTurns zero old new = new ≡ old
  TakesTurns (suc n) old new = (middle : Worker W L C N) × TakesTurns n old middle × TakesTurn middle new true

  -- a worker made all its turns, or found its door closed
  abbrev pub MakesItsTurns : Worker W L C N → Worker W L C N → Type 0
  MakesItsTurns old new =
      TakesTurns old.turns old new
      ⊎ ((n : ℕ) × (middle : Worker W L C N) × (n < old.turns) × TakesTurns n old middle × TakesTurn middle new false)

  -- what a worker did: its turns; and its pass is the same pass, whose calls may still have been made, one after another,
  -- since the office was opened
  pub record Worked (old new : Worker W L C N) : Type 0 where
    pub turns : MakesItsTurns old new
    pub legal : IsLegal O old.pass.list → IsLegal O new.pass.list
    pub pass : IsSamePass old.pass new.pass
