-- What turns add up to.
use Rattle.std.proofs.Common.{◌≡◌, ◌⊎◌, ◌+◌, ◌*◌, ◌≤◌, ◌<◌, ◌^◌, ℕ, zero, suc, Bool, true, false, List, [], ◌∷◌, ◌++◌, Option, Some, None, length, min, inl, inr, refl, sym, ap, subst, ◌∙◌, arith, suc-mul, mul-le-mul_right, length-append, true≢false}
use mathlib.Core.List.{IsPrefix}
use Rattle.as4_disk.specs.declared.disk.Disk.{Ghosts as DiskMeaning}
use Rattle.as4_flow.specs.declared.clock.Clock.{Ghosts as ClockMeaning}
use Rattle.as4_flow.specs.declared.nonces.Nonces.{Ghosts as NoncesMeaning}
use Rattle.as4_host.specs.declared.door.Door.{Ghosts as DoorMeaning}
use Rattle.as4_host.specs.declared.link.Link.{Ghosts as LinkMeaning}
use Rattle.pass_book.proofs.Beginnings.{prefix_self}
use Rattle.sessions.specs.declared.naming.Opening.{Ghosts as OpeningMeaning}
use Rattle.workers.specs.Bounds.{Grows, door_of, most_calls}
use Rattle.workers.specs.Endings.{goes_on}
use Rattle.workers.specs.Turns.{Does, Makes, TakesTurn, TakesTurns, MakesItsTurns}
use Rattle.workers.specs.declared.job.Job.{Job}
use Rattle.workers.specs.declared.job.Job.TheVariants as job
use Rattle.workers.specs.declared.job.Worker.{Worker}
use Rattle.workers.specs.declared.turn.Turn.{Turn}
use Rattle.workers.specs.declared.turn.Turn.TheVariants as turn
use Rattle.workers.proofs.GrowthLemmas.{IsFull, prefix_then}
use Rattle.workers.proofs.RoundLemmas.{MakesUpTo}
use Rattle.workers.proofs.TurnLemmas.{does_away, does_up_to, finished, starves_of, starves_once}

module _ {W L C N : Type 0} where
  -- it grows, and keeps its job
  pub record GrowsOn (turns : ℕ) (old new : Worker W L C N) : Type 0 where
    pub grows : Grows turns old new
    pub job : new.job ≡ old.job

  grows_none : (old new : Worker W L C N) → new ≡ old → GrowsOn 0 old new
  grows_none old new same = subst (λ (w : Worker W L C N). GrowsOn 0 old w) (sym same) (record {
    grows = record {
      list = prefix_self old.pass.list;
      share = omega arith;
      most = omega arith;
      starved = omega arith;
      starved_most = omega arith;
    };
    job = refl;
  })

  pub grows_then : (n : ℕ) (old middle new : Worker W L C N) → GrowsOn n old middle → GrowsOn 1 middle new → GrowsOn (suc n) old new
  grows_then n old middle new first last =
      let calls : most_calls middle.job ≡ most_calls old.job = ap most_calls first.job in
      let product : suc n * most_calls old.job ≡ n * most_calls old.job + most_calls old.job = suc-mul n (most_calls old.job) in
      let one : 1 * most_calls middle.job ≡ most_calls middle.job = omega arith in record {
        grows = record {
          list = prefix_then old.pass.list middle.pass.list new.pass.list first.grows.list last.grows.list;
          share = omega (arith, first.grows.share, last.grows.share);
          most = omega (arith, first.grows.most, last.grows.most, calls, product, one);
          starved = omega (arith, first.grows.starved, last.grows.starved);
          starved_most = omega (arith, first.grows.starved_most, last.grows.starved_most);
        };
        job = last.job ∙ first.job;
      }

  pub grows_within : (m n : ℕ) (old new : Worker W L C N) → m ≤ n → Grows m old new → Grows n old new
  grows_within m n old new within grows =
      let product : m * most_calls old.job ≤ n * most_calls old.job = mul-le-mul_right (most_calls old.job) within in record {
        list = grows.list;
        share = grows.share;
        most = omega (arith, grows.most, product);
        starved = grows.starved;
        starved_most = omega (arith, grows.starved_most, within);
      }

  -- a pass whose history isn't full had none that was
  pub room_before : (n : ℕ) (old new : Worker W L C N) → Grows n old new → length new.pass.list < 2 ^ 63 → length old.pass.list < 2 ^ 63
  room_before n old new grows room =
      let longer : length (old.pass.list ++ grows.list.0) ≡ length new.pass.list = ap length grows.list.1 in
      omega (arith, room, longer, length-append old.pass.list grows.list.0)

module _ {D J W In Out L From To C N : Type 0} (M : DiskMeaning D) (O : OpeningMeaning J) (G : DoorMeaning W In Out) (K : LinkMeaning L From To) (T : ClockMeaning C) (R : NoncesMeaning N) where
  pub turn_grows : (old new : Worker W L C N) (goes : Bool) → TakesTurn M O G K T R old new goes → GrowsOn 1 old new
  turn_grows old new goes takes =
      let made = does_up_to M O G K T R old.job old takes.middle takes.end takes.makes.does in
      let left = finished M O G K T R takes.end takes.middle new takes.finishes in
      let share : new.pass.share ≡ old.pass.share + made.count = ap (λ p. p.share) left.pass ∙ made.moves.share in
      let starved : new.starved ≡ takes.middle.starved + starves_of takes.end = left.starved in
      let once = starves_once takes.end in
      let one : 1 * most_calls old.job ≡ most_calls old.job = omega arith in record {
        grows = record {
          list = subst (λ p. IsPrefix old.pass.list p.list) (sym left.pass) made.moves.list;
          share = omega (arith, share);
          most = omega (arith, share, made.few, one);
          starved = omega (arith, starved, takes.makes.starved);
          starved_most = omega (arith, starved, takes.makes.starved, once);
        };
        job = left.job ∙ takes.makes.job;
      }

  pub turns_grow : (n : ℕ) (old new : Worker W L C N) → TakesTurns M O G K T R n old new → GrowsOn n old new
  turns_grow zero old new takes = grows_none old new takes
  turns_grow (suc n) old new (middle, first, last) = grows_then n old middle new (turns_grow n old middle first) (turn_grows middle new true last)

  -- the share and the turns that are counted as starved are within bounds
  pub worked_grows : (old new : Worker W L C N) → MakesItsTurns M O G K T R old new → Grows old.turns old new
  worked_grows old new (inl all) = (turns_grow old.turns old new all).grows
  worked_grows old new (inr (n, middle, fewer, first, last)) =
      grows_within (suc n) old.turns old new (omega (arith, fewer))
      (grows_then n old middle new (turns_grow n old middle first) (turn_grows middle new false last)).grows

  -- a turn away from a door makes a call, or is counted as starved
  turn_makes : (old new : Worker W L C N) (goes : Bool) → TakesTurn M O G K T R old new goes → door_of old.job ≡ None → length new.pass.list < 2 ^ 63
      → (1 + old.pass.share + old.starved ≤ new.pass.share + new.starved) × (goes ≡ true)
  turn_makes old new goes takes none room =
      let done = does_away M O G K T R old.job old takes.middle takes.end takes.makes.does none in
      let left = finished M O G K T R takes.end takes.middle new takes.finishes in
      let share : new.pass.share ≡ old.pass.share + done.some.made.count = ap (λ p. p.share) left.pass ∙ done.some.made.moves.share in
      let starved : new.starved ≡ takes.middle.starved + starves_of takes.end = left.starved in
      let list : length new.pass.list ≡ length takes.middle.pass.list = ap (λ p. length p.list) left.pass in
      let counted = takes.makes.starved in (
        elim done.some.cause as (λ _. 1 + old.pass.share + old.starved ≤ new.pass.share + new.starved) [
          | inl some ↦ omega (arith, share, starved, counted, some)
          | inr without ↦ elim without as (λ _. 1 + old.pass.share + old.starved ≤ new.pass.share + new.starved) [
            | inl full ↦ absurd (omega (arith, full, list, room))
            | inr memory ↦ let one : starves_of takes.end ≡ 1 = ap starves_of memory in omega (arith, share, starved, counted, one)
          ]
        ],
        takes.goes_is ∙ done.goes,
      )

  turns_make : (n : ℕ) (old new : Worker W L C N) → TakesTurns M O G K T R n old new → door_of old.job ≡ None → length new.pass.list < 2 ^ 63
      → n + old.pass.share + old.starved ≤ new.pass.share + new.starved
  turns_make zero old new takes none room =
      let share : new.pass.share ≡ old.pass.share = ap (λ (w : Worker W L C N). w.pass.share) takes in
      let starved : new.starved ≡ old.starved = ap (λ (w : Worker W L C N). w.starved) takes in
      omega (arith, share, starved)
  turns_make (suc n) old new (middle, first, last) none room =
      let there = turns_grow n old middle first in
      let one = turn_grows middle new true last in
      let before = turns_make n old middle first none (room_before 1 middle new one.grows room) in
      let then = turn_makes middle new true last (ap door_of there.job ∙ none) room in
      omega (arith, before, then.0)

  -- a worker away from a door makes a call in each of its turns, but for those that are counted as starved
  pub worked_makes : (old new : Worker W L C N) → MakesItsTurns M O G K T R old new → door_of old.job ≡ None → length new.pass.list < 2 ^ 63
      → old.turns + old.pass.share + old.starved ≤ new.pass.share + new.starved
  worked_makes old new (inl all) none room = turns_make old.turns old new all none room
  worked_makes old new (inr (n, middle, fewer, first, last)) none room =
      let there = turns_grow n old middle first in
      let ends = turn_makes middle new false last (ap door_of there.job ∙ none) room in
      absurd (true≢false (sym ends.1))

  -- a turn that sets the clock is never counted as starved
  ticks_idle : (which : Job) (old new : Worker W L C N) (end : Turn) → Does M O G K T R which old new end → which ≡ job.Tick → starves_of end ≡ 0
  ticks_idle job.Peer old new end does is = absurd cc
  ticks_idle job.Local old new end does is = absurd cc
  ticks_idle job.Push old new end does is = absurd cc
  ticks_idle (job.Pull mode) old new end does is = absurd cc
  ticks_idle job.Tick old new end does is = ap starves_of does.ended

  tick_counts : (old new : Worker W L C N) (goes : Bool) → TakesTurn M O G K T R old new goes → old.job ≡ job.Tick → new.starved ≡ old.starved
  tick_counts old new goes takes is =
      let left = finished M O G K T R takes.end takes.middle new takes.finishes in
      omega (arith, left.starved, takes.makes.starved, ticks_idle old.job old takes.middle takes.end takes.makes.does is)

  ticks_count : (n : ℕ) (old new : Worker W L C N) → TakesTurns M O G K T R n old new → old.job ≡ job.Tick → new.starved ≡ old.starved
  ticks_count zero old new takes is = ap (λ (w : Worker W L C N). w.starved) takes
  ticks_count (suc n) old new (middle, first, last) is =
      let there = turns_grow n old middle first in
      tick_counts middle new true last (there.job ∙ is) ∙ ticks_count n old middle first is

  all_ticks : (old new : Worker W L C N) → MakesItsTurns M O G K T R old new → old.job ≡ job.Tick → new.starved ≡ old.starved
  all_ticks old new (inl all) is = ticks_count old.turns old new all is
  all_ticks old new (inr (n, middle, fewer, first, last)) is =
      let there = turns_grow n old middle first in
      tick_counts middle new false last (there.job ∙ is) ∙ ticks_count n old middle first is

  -- a worker that sets the clock makes as many calls as turns
  pub worked_ticks : (old new : Worker W L C N) → MakesItsTurns M O G K T R old new → old.job ≡ job.Tick → length new.pass.list < 2 ^ 63
      → new.pass.share ≡ old.pass.share + old.turns
  worked_ticks old new worked is room =
      let least = worked_makes old new worked (ap door_of is) room in
      let most = (worked_grows old new worked).most in
      let one : old.turns * most_calls old.job ≡ old.turns = ap (λ (which : Job). old.turns * most_calls which) is ∙ omega arith in
      omega (arith, least, most, one, all_ticks old new worked is)
