use Rattle.std.proofs.Common.{◌≡◌, ℕ, arith, subst}
use Rattle.drill.proofs.GeneratedLemmas.{RoundsOn, rounds_done, rounds_more, rounds_none}
use Rattle.drill.proofs.generated.play_rounds.Goals as goal

pub rounds-init : goal.rounds-init
rounds-init c = record {
  within = omega arith;
  counter = omega arith;
  handed = c.requires.handed;
  few = c.requires.few;
  on = rounds_none c.args.state.now;
}

pub rounds-preserved : goal.rounds-preserved
rounds-preserved c = record {
  within = omega arith;
  counter = c.in_ok-later.ensures.counter;
  handed = omega (arith, c.in_ok-later.ensures.grows.1, c.rounds.invariant.handed);
  few = omega (arith, c.in_ok-later.ensures.grows.0, c.rounds.invariant.few);
  on = rounds_more c.args.state.now c.rounds.round c.rounds.counter c.in_ok-later.later c.rounds.state c.play_round.new.state
      c.rounds.invariant.on c.in_ok-later.ensures.plays;
}

pub returns-clause-rounds : goal.returns-clause-rounds
returns-clause-rounds c =
    let all : c.rounds.round ≡ 11 = omega arith in
    rounds_done c.args.state.now c.rounds.counter c.rounds.state
    (subst (λ (n : ℕ). RoundsOn c.args.state.now n c.rounds.counter c.rounds.state) all c.rounds.invariant.on)
