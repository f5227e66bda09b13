-- What one turn does to a worker whose guests send several requests each.
use Rattle.std.proofs.Common.{◌≡◌, ◌+◌, ◌*◌, ◌≤◌, ◌<◌, ◌^◌, ℕ, zero, suc, Bool, true, false, ◌++◌, Option, Some, None, length, inl, inr, refl, sym, ap, subst, ◌∙◌, length-append, suc-mul, mul-le-mul_right, arith}
use mathlib.Core.List.{IsPrefix}
use Rattle.as4_disk.specs.declared.disk.Disk.{Ghosts as DiskMeaning}
use Rattle.as4_doors.specs.declared.door.DoorKind.{DoorKind}
use Rattle.as4_flow.specs.declared.clock.Clock.{Ghosts as ClockMeaning}
use Rattle.as4_flow.specs.declared.nonces.Nonces.{Ghosts as NoncesMeaning}
use Rattle.as4_host.specs.declared.door.Door.{Ghosts as DoorMeaning}
use Rattle.as4_host.specs.declared.link.Link.{Ghosts as LinkMeaning}
use Rattle.pass_book.proofs.Beginnings.{prefix_self}
use Rattle.sessions.specs.declared.naming.Opening.{Ghosts as OpeningMeaning}
use Rattle.workers.specs.Bounds.{Grows, door_of, most_calls}
use Rattle.workers.specs.Endings.{goes_on}
use Rattle.workers.specs.Guests.{Caller}
use Rattle.workers.specs.Turns.{Finishes, MakesItsTurns, TakesTurn, TakesTurns, Worked, caller_of}
use Rattle.workers.specs.declared.job.Job.{Job}
use Rattle.workers.specs.declared.job.Job.TheVariants as job
use Rattle.workers.specs.declared.job.Worker.{Worker}
use Rattle.workers.specs.declared.turn.Turn.{Turn}
use Rattle.workers.specs.declared.turn.Turn.TheVariants as turn
use Rattle.as4_keep.specs.KeptBounds.{GrowsKept, most_kept_calls}
use Rattle.as4_keep.specs.KeptGuests.{AtKeptDoor, KeepsGuest, MeetsKeptGuest}
use Rattle.as4_keep.specs.KeptTurns.{KeepsOnce, KeptWorked, MakesItsKeptTurns, TakesDoorTurn, TakesKeptTurn, TakesKeptTurns, TakesTurnAt}
use Rattle.as4_keep.specs.declared.keep_end.KeepEnd.{KeepEnd}
use Rattle.as4_keep.proofs.GrowthLemmas.{MovesUpTo, kept_moved, none_moved, prefix_then}

-- how many turns are counted as starved
abbrev pub starves_of : Turn → ℕ
starves_of turn.Worked = 0
starves_of turn.Idle = 0
starves_of turn.Starved = 1
starves_of turn.Closed = 0

pub starves_once : (end : Turn) → starves_of end ≤ 1
starves_once turn.Worked = omega arith
starves_once turn.Idle = omega arith
starves_once turn.Starved = omega arith
starves_once turn.Closed = omega arith

-- at a door a turn makes as many calls as requests may be served, and elsewhere as in `workers`
most_at_door : (limit : ℕ) (j : Job) (kind : DoorKind) → door_of j ≡ Some kind → most_kept_calls limit j ≡ limit
most_at_door limit job.Peer kind at = refl
most_at_door limit job.Local kind at = refl
most_at_door limit job.Push kind at = absurd cc
most_at_door limit (job.Pull mode) kind at = absurd cc
most_at_door limit job.Tick kind at = absurd cc

most_away : (limit : ℕ) (j : Job) → door_of j ≡ None → most_kept_calls limit j ≡ most_calls j
most_away limit job.Peer at = absurd cc
most_away limit job.Local at = absurd cc
most_away limit job.Push at = refl
most_away limit (job.Pull mode) at = refl
most_away limit job.Tick at = refl

module _ {W L C N : Type 0} (limit : ℕ) where
  -- it grows, and keeps its job
  pub record GrowsOn (turns : ℕ) (old new : Worker W L C N) : Type 0 where
    pub grows : GrowsKept limit turns old new
    pub job : new.job ≡ old.job

  grows_none : (old new : Worker W L C N) → new ≡ old → GrowsOn 0 old new
  grows_none old new same = subst (λ (w : Worker W L C N). GrowsOn 0 old w) (sym same) (record {
    grows = record {
      list = prefix_self old.pass.list;
      share = omega arith;
      most = omega arith;
      starved = omega arith;
      starved_most = omega arith;
    };
    job = refl;
  })

  pub grows_then : (n : ℕ) (old middle new : Worker W L C N) → GrowsOn n old middle → GrowsOn 1 middle new → GrowsOn (suc n) old new
  grows_then n old middle new first last =
      let calls : most_kept_calls limit middle.job ≡ most_kept_calls limit old.job = ap (most_kept_calls limit) first.job in
      let product : suc n * most_kept_calls limit old.job ≡ n * most_kept_calls limit old.job + most_kept_calls limit old.job = suc-mul n (most_kept_calls limit old.job) in
      let one : 1 * most_kept_calls limit middle.job ≡ most_kept_calls limit middle.job = omega arith in record {
        grows = record {
          list = prefix_then old.pass.list middle.pass.list new.pass.list first.grows.list last.grows.list;
          share = omega (arith, first.grows.share, last.grows.share);
          most = omega (arith, first.grows.most, last.grows.most, calls, product, one);
          starved = omega (arith, first.grows.starved, last.grows.starved);
          starved_most = omega (arith, first.grows.starved_most, last.grows.starved_most);
        };
        job = last.job ∙ first.job;
      }

  pub grows_within : (m n : ℕ) (old new : Worker W L C N) → m ≤ n → GrowsKept limit m old new → GrowsKept limit n old new
  grows_within m n old new within grows =
      let product : m * most_kept_calls limit old.job ≤ n * most_kept_calls limit old.job = mul-le-mul_right (most_kept_calls limit old.job) within in record {
        list = grows.list;
        share = grows.share;
        most = omega (arith, grows.most, product);
        starved = grows.starved;
        starved_most = omega (arith, grows.starved_most, within);
      }

  -- a pass whose history isn't full had none that was
  pub room_before : (n : ℕ) (old new : Worker W L C N) → GrowsKept limit n old new → length new.pass.list < 2 ^ 63 → length old.pass.list < 2 ^ 63
  room_before n old new grows room =
      let longer : length (old.pass.list ++ grows.list.0) ≡ length new.pass.list = ap length grows.list.1 in
      omega (arith, room, longer, length-append old.pass.list grows.list.0)

-- what a turn leaves of a worker besides what it did
pub record Left {W L C N : Type 0} (end : Turn) (middle new : Worker W L C N) : Type 0 where
  pub pass : new.pass ≡ middle.pass
  pub starved : new.starved ≡ middle.starved + starves_of end
  pub job : new.job ≡ middle.job
  pub turns : new.turns ≡ middle.turns
  pub door : new.door ≡ middle.door

module _ {W L C N : Type 0} (T : ClockMeaning C) where
  left_same : (end : Turn) (middle new : Worker W L C N) → new ≡ middle → starves_of end ≡ 0 → Left end middle new
  left_same end middle new same none = record {
    pass = ap (λ (w : Worker W L C N). w.pass) same;
    starved = ap (λ (w : Worker W L C N). w.starved) same ∙ omega (arith, none);
    job = ap (λ (w : Worker W L C N). w.job) same;
    turns = ap (λ (w : Worker W L C N). w.turns) same;
    door = ap (λ (w : Worker W L C N). w.door) same;
  }

module _ {D J W In Out L From To C N : Type 0} (M : DiskMeaning D) (O : OpeningMeaning J) (G : DoorMeaning W In Out) (K : LinkMeaning L From To) (T : ClockMeaning C) (R : NoncesMeaning N) where
  pub finished : (end : Turn) (middle new : Worker W L C N) → Finishes M O G K T R end middle new → Left end middle new
  finished turn.Worked middle new same = left_same T turn.Worked middle new same refl
  finished turn.Idle middle new rests = record {
    pass = ap (λ (w : Worker W L C N). w.pass) rests.same;
    starved = ap (λ (w : Worker W L C N). w.starved) rests.same ∙ omega arith;
    job = ap (λ (w : Worker W L C N). w.job) rests.same;
    turns = ap (λ (w : Worker W L C N). w.turns) rests.same;
    door = ap (λ (w : Worker W L C N). w.door) rests.same;
  }
  finished turn.Starved middle new rests = record {
    pass = ap (λ (w : Worker W L C N). w.pass) rests.same;
    starved = ap (λ (w : Worker W L C N). w.starved) rests.same;
    job = ap (λ (w : Worker W L C N). w.job) rests.same;
    turns = ap (λ (w : Worker W L C N). w.turns) rests.same;
    door = ap (λ (w : Worker W L C N). w.door) rests.same;
  }
  finished turn.Closed middle new same = left_same T turn.Closed middle new same refl

  module _ (limit : ℕ) (some : 1 ≤ limit) where
    guest_moved : (kind : DoorKind) (from to : W) (old new : Caller C N) (end : KeepEnd) → KeepsGuest M O G T R limit kind from to old new end → MovesUpTo limit old.pass new.pass
    guest_moved kind from to old new end keeps = kept_moved M O T R kind limit _ _ end some keeps.keeps

    meets_moved : (kind : DoorKind) (from to : W) (old new : Caller C N) (end : Turn) → MeetsKeptGuest M O G T R limit kind from to old new end → MovesUpTo limit old.pass new.pass
    meets_moved kind from to old new turn.Worked (end, keeps, is) = guest_moved kind from to old new end keeps
    meets_moved kind from to old new turn.Idle meets = none_moved limit old.pass new.pass (ap (λ (c : Caller C N). c.pass) meets.0.same)
    meets_moved kind from to old new turn.Starved (inl (end, keeps, is)) = guest_moved kind from to old new end keeps
    meets_moved kind from to old new turn.Starved (inr meets) = none_moved limit old.pass new.pass (ap (λ (c : Caller C N). c.pass) meets.0.same)
    meets_moved kind from to old new turn.Closed meets = none_moved limit old.pass new.pass (ap (λ (c : Caller C N). c.pass) meets.0.same)

    at_door_moved : (kind : DoorKind) (from to : Option W) (old new : Caller C N) (end : Turn) → AtKeptDoor M O G T R limit kind from to old new end → MovesUpTo limit old.pass new.pass
    at_door_moved kind (Some from) (Some to) old new end meets = meets_moved kind from to old new end meets
    at_door_moved kind (Some from) None old new end meets = absurd meets
    at_door_moved kind None to old new end meets = none_moved limit old.pass new.pass (ap (λ (c : Caller C N). c.pass) meets.1)

    pub turn_grows : (kind : DoorKind) (old new : Worker W L C N) (goes : Bool) → door_of old.job ≡ Some kind → TakesDoorTurn M O G K T R limit kind old new goes → GrowsOn limit 1 old new
    turn_grows kind old new goes at takes =
        let made = at_door_moved kind old.door takes.middle.door (caller_of old) (caller_of takes.middle) takes.end takes.keeps.meets in
        let left = finished takes.end takes.middle new takes.finishes in
        let share : new.pass.share ≡ old.pass.share + made.count = ap (λ p. p.share) left.pass ∙ made.moves.share in
        let starved : new.starved ≡ takes.middle.starved + starves_of takes.end = left.starved in
        let once = starves_once takes.end in
        let one : 1 * most_kept_calls limit old.job ≡ limit = omega (arith, most_at_door limit old.job kind at) in record {
          grows = record {
            list = subst (λ p. IsPrefix old.pass.list p.list) (sym left.pass) made.moves.list;
            share = omega (arith, share);
            most = omega (arith, share, made.few, one);
            starved = omega (arith, starved, takes.keeps.starved);
            starved_most = omega (arith, starved, takes.keeps.starved, once);
          };
          job = left.job ∙ takes.keeps.job;
        }

    -- a turn of a worker at a door
    pub door_turn : (kind : DoorKind) (old new : Worker W L C N) (goes : Bool) → door_of old.job ≡ Some kind → TakesKeptTurn M O G K T R limit old new goes
        → TakesDoorTurn M O G K T R limit kind old new goes
    door_turn kind old new goes at takes = subst (λ (o : Option DoorKind). TakesTurnAt M O G K T R limit o old new goes) at takes

    pub turns_grow : (kind : DoorKind) (n : ℕ) (old new : Worker W L C N) → door_of old.job ≡ Some kind → TakesKeptTurns M O G K T R limit n old new → GrowsOn limit n old new
    turns_grow kind zero old new at takes = grows_none limit old new takes
    turns_grow kind (suc n) old new at (middle, first, last) =
        let there = turns_grow kind n old middle at first in
        let here : door_of middle.job ≡ Some kind = ap door_of there.job ∙ at in
        grows_then limit n old middle new there (turn_grows kind middle new true here (door_turn kind middle new true here last))

    pub door_grows : (kind : DoorKind) (old new : Worker W L C N) → door_of old.job ≡ Some kind → MakesItsKeptTurns M O G K T R limit old new → GrowsKept limit old.turns old new
    door_grows kind old new at (inl all) = (turns_grow kind old.turns old new at all).grows
    door_grows kind old new at (inr (n, middle, fewer, first, last)) =
        let there = turns_grow kind n old middle at first in
        let here : door_of middle.job ≡ Some kind = ap door_of there.job ∙ at in
        grows_within limit (suc n) old.turns old new (omega (arith, fewer))
        (grows_then limit n old middle new there (turn_grows kind middle new false here (door_turn kind middle new false here last))).grows

  -- a worker away from a door makes the turns of `workers`
  module _ (limit : ℕ) where
    away_turn : (old new : Worker W L C N) (goes : Bool) → door_of old.job ≡ None → TakesKeptTurn M O G K T R limit old new goes → TakesTurn M O G K T R old new goes
    away_turn old new goes at takes = subst (λ (o : Option DoorKind). TakesTurnAt M O G K T R limit o old new goes) at takes

    same_job : (old new : Worker W L C N) (goes : Bool) → TakesTurn M O G K T R old new goes → new.job ≡ old.job
    same_job old new goes takes = (finished takes.end takes.middle new takes.finishes).job ∙ takes.makes.job

    away_turns : (n : ℕ) (old new : Worker W L C N) → door_of old.job ≡ None → TakesKeptTurns M O G K T R limit n old new
        → TakesTurns M O G K T R n old new × (new.job ≡ old.job)
    away_turns zero old new at takes = (takes, ap (λ (w : Worker W L C N). w.job) takes)
    away_turns (suc n) old new at (middle, first, last) =
        let there = away_turns n old middle at first in
        let one = away_turn middle new true (ap door_of there.1 ∙ at) last in
        ((middle, there.0, one), same_job middle new true one ∙ there.1)

    away_makes : (old new : Worker W L C N) → door_of old.job ≡ None → MakesItsKeptTurns M O G K T R limit old new → MakesItsTurns M O G K T R old new
    away_makes old new at (inl all) = inl (away_turns old.turns old new at all).0
    away_makes old new at (inr (n, middle, fewer, first, last)) =
        let there = away_turns n old middle at first in
        inr (n, middle, fewer, there.0, away_turn middle new false (ap door_of there.1 ∙ at) last)

    pub away_worked : (old new : Worker W L C N) → door_of old.job ≡ None → KeptWorked M O G K T R limit old new → Worked M O G K T R old new
    away_worked old new at worked = record { turns = away_makes old new at worked.turns; legal = worked.legal; pass = worked.pass }

    pub away_grows : (old new : Worker W L C N) → door_of old.job ≡ None → Grows old.turns old new → GrowsKept limit old.turns old new
    away_grows old new at grows = record {
      list = grows.list;
      share = grows.share;
      most = omega (arith, grows.most, ap (λ (n : ℕ). old.turns * n) (most_away limit old.job at));
      starved = grows.starved;
      starved_most = grows.starved_most;
    }

    -- a turn is counted as starved once at most
    turn_starves_at : (o : Option DoorKind) (old new : Worker W L C N) (goes : Bool) → TakesTurnAt M O G K T R limit o old new goes → new.starved ≤ old.starved + 1
    turn_starves_at (Some kind) old new goes takes =
        omega (arith, (finished takes.end takes.middle new takes.finishes).starved, takes.keeps.starved, starves_once takes.end)
    turn_starves_at None old new goes takes =
        omega (arith, (finished takes.end takes.middle new takes.finishes).starved, takes.makes.starved, starves_once takes.end)

    pub turn_starves : (old new : Worker W L C N) (goes : Bool) → TakesKeptTurn M O G K T R limit old new goes → new.starved ≤ old.starved + 1
    turn_starves old new goes takes = turn_starves_at (door_of old.job) old new goes takes

    -- a turn at a door is a turn of a worker there
    pub turn_of_door : (kind : DoorKind) (old middle new : Worker W L C N) (end : Turn) → door_of old.job ≡ Some kind
        → KeepsOnce M O G K T R limit kind old middle end → Finishes M O G K T R end middle new → TakesKeptTurn M O G K T R limit old new (goes_on end)
    turn_of_door kind old middle new end at keeps finishes =
        subst (λ (o : Option DoorKind). TakesTurnAt M O G K T R limit o old new (goes_on end)) (sym at)
        (record { middle = middle; end = end; keeps = keeps; finishes = finishes; goes_is = refl })
