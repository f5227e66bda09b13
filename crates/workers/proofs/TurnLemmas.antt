-- What one turn does to a worker.
use Rattle.std.proofs.Common.{◌≡◌, ◌⊎◌, ◌+◌, ◌≤◌, ◌<◌, ◌^◌, ℕ, suc, Bool, true, false, if◌then◌else◌, List, [], ◌∷◌, ◌++◌, Option, Some, None, Result, Ok, Err, length, min, inl, inr, refl, sym, ap, subst, ◌∙◌, arith}
use Rattle.std.specs.List.{AllByRecursion}
use mathlib.Core.List.{IsPrefix}
use Rattle.as4_disk.specs.declared.disk.Disk.{Ghosts as DiskMeaning}
use Rattle.as4_doors.specs.Asking.{AsksFor}
use Rattle.as4_doors.specs.declared.door.DoorKind.{DoorKind}
use Rattle.as4_doors.specs.declared.door.DoorKind.TheVariants as door
use Rattle.as4_flow.specs.Flow.{Streams}
use Rattle.as4_flow.specs.declared.clock.Clock.{Ghosts as ClockMeaning}
use Rattle.as4_flow.specs.declared.nonces.Nonces.{Ghosts as NoncesMeaning}
use Rattle.as4_host.specs.Counts.{HasNotRisen}
use Rattle.as4_host.specs.Lists.{first_of, without_first}
use Rattle.as4_host.specs.declared.door.Door.{Ghosts as DoorMeaning}
use Rattle.as4_host.specs.declared.link.Link.{Ghosts as LinkMeaning}
use Rattle.as4_http.specs.Requests.{BeginsRequest}
use Rattle.as4_http.specs.declared.message.Request.{Request}
use Rattle.exchange_model.specs.declared.what.What.{What}
use Rattle.exchange_model.specs.declared.reply.Reply.{Reply}
use Rattle.office.specs.declared.call.Call.{Call}
use Rattle.office.specs.declared.fault.OfficeFault.{OfficeFault}
use Rattle.office.specs.declared.fault.OfficeFault.TheVariants as fault
use Rattle.pass_book.specs.States.{PassState}
use Rattle.rounds.specs.declared.pulling.Pulled.{Pulled}
use Rattle.sessions.specs.Sessions.{DrawsBoth, Ends, IsHandled}
use Rattle.sessions.specs.Shared.{AnswersUnder, TellsTick}
use Rattle.sessions.specs.declared.ended.Ended.{Ended}
use Rattle.sessions.specs.declared.ended.Ended.TheVariants as ended
use Rattle.sessions.specs.declared.naming.Opening.{Ghosts as OpeningMeaning}
use Rattle.sessions.specs.declared.rounds.RoundEnd.{RoundEnd}
use Rattle.sessions.specs.declared.rounds.RoundEnd.TheVariants as round
use Rattle.workers.specs.Bounds.{AskAtLeast, Asks, HasEventOf, IsEntered, IsQuiet, Took, door_of, most_calls}
use Rattle.workers.specs.Endings.{after_pull, after_push, after_session, goes_on, round_starves, is_idle}
use Rattle.workers.specs.Guests.{AtDoor, Caller, MeetsGuest, MeetsNobody, ServesGuest}
use Rattle.workers.specs.Turns.{Does, Finishes, Makes, Rests, TakesTurn, caller_of}
use Rattle.workers.specs.declared.job.Job.{Job}
use Rattle.workers.specs.declared.job.Job.TheVariants as job
use Rattle.workers.specs.declared.job.Worker.{Worker}
use Rattle.workers.specs.declared.turn.Turn.{Turn}
use Rattle.workers.specs.declared.turn.Turn.TheVariants as turn
use Rattle.workers.proofs.GrowthLemmas.{IsFull, MakesOne, Moves, handled}
use Rattle.workers.proofs.GuestLemmas.{guest_asks, guest_makes}
use Rattle.workers.proofs.RoundLemmas.{MakesSome, MakesUpTo, makes_none, pulls_some, pushes_some}

-- how many turns are counted as starved
abbrev pub starves_of : Turn → ℕ
starves_of turn.Worked = 0
starves_of turn.Idle = 0
starves_of turn.Starved = 1
starves_of turn.Closed = 0

pub starves_once : (end : Turn) → starves_of end ≤ 1
starves_once turn.Worked = omega arith
starves_once turn.Idle = omega arith
starves_once turn.Starved = omega arith
starves_once turn.Closed = omega arith

-- a round doesn't close a door
may_go_on : (starved idle : Bool) → goes_on (if starved then turn.Starved else if idle then turn.Idle else turn.Worked) ≡ true
may_go_on true idle = refl
may_go_on false true = refl
may_go_on false false = refl

may_pull_on : (starved received : Bool) → goes_on (if starved then turn.Starved else if received then turn.Worked else turn.Idle) ≡ true
may_pull_on true received = refl
may_pull_on false true = refl
may_pull_on false false = refl

no_tick : (result : Result Reply OfficeFault) (by : RoundEnd) → TellsTick result by → result ≡ Err fault.NoMemory → ⊥
no_tick result by tells is = absurd (subst (λ (r : Result Reply OfficeFault). TellsTick r by) is tells)

-- what a turn leaves of a worker besides what it did
pub record Left {W L C N : Type 0} (end : Turn) (middle new : Worker W L C N) : Type 0 where
  pub pass : new.pass ≡ middle.pass
  pub starved : new.starved ≡ middle.starved + starves_of end
  pub job : new.job ≡ middle.job
  pub turns : new.turns ≡ middle.turns
  pub door : new.door ≡ middle.door

module _ {W L C N : Type 0} (T : ClockMeaning C) where
  left_same : (end : Turn) (middle new : Worker W L C N) → new ≡ middle → starves_of end ≡ 0 → Left end middle new
  left_same end middle new same none = record {
    pass = ap (λ (w : Worker W L C N). w.pass) same;
    starved = ap (λ (w : Worker W L C N). w.starved) same ∙ omega (arith, none);
    job = ap (λ (w : Worker W L C N). w.job) same;
    turns = ap (λ (w : Worker W L C N). w.turns) same;
    door = ap (λ (w : Worker W L C N). w.door) same;
  }

module _ {D J W In Out L From To C N : Type 0} (M : DiskMeaning D) (O : OpeningMeaning J) (G : DoorMeaning W In Out) (K : LinkMeaning L From To) (T : ClockMeaning C) (R : NoncesMeaning N) where
  pub finished : (end : Turn) (middle new : Worker W L C N) → Finishes M O G K T R end middle new → Left end middle new
  finished turn.Worked middle new same = left_same T turn.Worked middle new same refl
  finished turn.Idle middle new rests = record {
    pass = ap (λ (w : Worker W L C N). w.pass) rests.same;
    starved = ap (λ (w : Worker W L C N). w.starved) rests.same ∙ omega arith;
    job = ap (λ (w : Worker W L C N). w.job) rests.same;
    turns = ap (λ (w : Worker W L C N). w.turns) rests.same;
    door = ap (λ (w : Worker W L C N). w.door) rests.same;
  }
  finished turn.Starved middle new rests = record {
    pass = ap (λ (w : Worker W L C N). w.pass) rests.same;
    starved = ap (λ (w : Worker W L C N). w.starved) rests.same;
    job = ap (λ (w : Worker W L C N). w.job) rests.same;
    turns = ap (λ (w : Worker W L C N). w.turns) rests.same;
    door = ap (λ (w : Worker W L C N). w.door) rests.same;
  }
  finished turn.Closed middle new same = left_same T turn.Closed middle new same refl

  meets_makes : (kind : DoorKind) (from to : W) (old new : Caller C N) (end : Turn) → MeetsGuest M O G T R kind from to old new end → MakesUpTo 1 old.pass new.pass
  meets_makes kind from to old new turn.Worked (end, serves, is) = guest_makes M O G T R kind from to old new end serves
  meets_makes kind from to old new turn.Idle meets = makes_none 1 old.pass new.pass (ap (λ (c : Caller C N). c.pass) meets.0.same)
  meets_makes kind from to old new turn.Starved (inl (end, serves, is)) = guest_makes M O G T R kind from to old new end serves
  meets_makes kind from to old new turn.Starved (inr meets) = makes_none 1 old.pass new.pass (ap (λ (c : Caller C N). c.pass) meets.0.same)
  meets_makes kind from to old new turn.Closed meets = makes_none 1 old.pass new.pass (ap (λ (c : Caller C N). c.pass) meets.0.same)

  at_door_makes : (kind : DoorKind) (from to : Option W) (old new : Caller C N) (end : Turn) → AtDoor M O G T R kind from to old new end → MakesUpTo 1 old.pass new.pass
  at_door_makes kind (Some from) (Some to) old new end meets = meets_makes kind from to old new end meets
  at_door_makes kind (Some from) None old new end meets = absurd meets
  at_door_makes kind None to old new end meets = makes_none 1 old.pass new.pass (ap (λ (c : Caller C N). c.pass) meets.1)

  -- what a worker without a door does: some call, unless the history is full or memory ran out; and it may go on
  pub record MakesAway (job : Job) (old new : Worker W L C N) (end : Turn) : Type 0 where
    pub some : MakesSome (most_calls job) (end ≡ turn.Starved) old.pass new.pass
    pub goes : goes_on end ≡ true

  away : (most : ℕ) (E F : Type 0) (old new : PassState Call) → (E → F) → MakesSome most E old new → MakesSome most F old new
  away most E F old new why some = record {
    made = some.made;
    cause = elim some.cause as (λ _. (1 ≤ some.made.count) ⊎ IsFull new ⊎ F) [
      | inl made ↦ inl made
      | inr none ↦ elim none as (λ _. (1 ≤ some.made.count) ⊎ IsFull new ⊎ F) [ inl full ↦ inr (inl full) | inr e ↦ inr (inr (why e)) ]
    ];
  }

  ticked : (old new : Worker W L C N) (end : Turn) → Does M O G K T R job.Tick old new end → MakesAway job.Tick old new end
  ticked old new end ticks =
      let steps = ticks.ticks.steps in
      let one = handled M steps.found steps.left old.pass new.pass ticks.ticks.event ticks.result steps.handles in record {
        some = record {
          made = record { count = one.count; few = one.one; moves = one.moves };
          cause = elim one.cause as (λ _. (1 ≤ one.count) ⊎ IsFull new.pass ⊎ (end ≡ turn.Starved)) [
            | inl some ↦ inl (omega (arith, some.0))
            | inr none ↦ elim none as (λ _. (1 ≤ one.count) ⊎ IsFull new.pass ⊎ (end ≡ turn.Starved)) [
              | inl full ↦ inr (inl full)
              | inr memory ↦ absurd (no_tick ticks.result ticks.by ticks.tells memory)
            ]
          ];
        };
        goes = ap goes_on ticks.ended;
      }

  pub does_away : (job : Job) (old new : Worker W L C N) (end : Turn) → Does M O G K T R job old new end → door_of job ≡ None → MakesAway job old new end
  does_away job.Peer old new end does none = absurd cc
  does_away job.Local old new end does none = absurd cc
  does_away job.Push old new end does none = record {
    some = away 2 (does.by ≡ round.NoMemory) (end ≡ turn.Starved) old.pass new.pass (λ is. does.ended ∙ ap after_push is)
        (pushes_some M O K T R _ _ does.by does.pushes);
    goes = ap goes_on does.ended ∙ may_go_on (round_starves does.by) (is_idle does.by);
  }
  does_away (job.Pull mode) old new end does none = record {
    some = away 3 (does.by.end ≡ round.NoMemory) (end ≡ turn.Starved) old.pass new.pass
        (λ is. does.ended ∙ ap (λ (by : RoundEnd). if round_starves by then turn.Starved else if does.by.received then turn.Worked else turn.Idle) is)
        (pulls_some M O K T R mode _ _ does.by does.pulls);
    goes = ap goes_on does.ended ∙ may_pull_on (round_starves does.by.end) does.by.received;
  }
  does_away job.Tick old new end does none = ticked old new end does

  -- the calls of a turn
  pub does_up_to : (job : Job) (old new : Worker W L C N) (end : Turn) → Does M O G K T R job old new end → MakesUpTo (most_calls job) old.pass new.pass
  does_up_to job.Peer old new end does = at_door_makes door.Peer old.door new.door (caller_of old) (caller_of new) end does.meets
  does_up_to job.Local old new end does = at_door_makes door.Local old.door new.door (caller_of old) (caller_of new) end does.meets
  does_up_to job.Push old new end does = (does_away job.Push old new end does refl).some.made
  does_up_to (job.Pull mode) old new end does = (does_away (job.Pull mode) old new end does refl).some.made
  does_up_to job.Tick old new end does = (does_away job.Tick old new end does refl).some.made
