use Rattle.std.proofs.Common.{Bool, subst}
use Rattle.drill.specs.Generated.{Pushes}
use Rattle.drill.specs.Generating.{IsPushed}
use Rattle.drill.proofs.GeneratedLemmas.{transmission_played}
use Rattle.drill.proofs.SpendLemmas.{transmission_room}
use Rattle.drill.proofs.generated.play_transmission.Goals as goal

pub carry_both-requires-clause-few : goal.carry_both-requires-clause-few
carry_both-requires-clause-few c =
    transmission_room c.in_ok-pushed.pushed c.args.state.now c.take_one.new.state c.in_ok-pushed.ensures.0 c.in_ok-pushed.ensures.1 c.if-pushed.true c.requires.few

pub returns-in_ok-carry_both : goal.returns-in_ok-carry_both
returns-in_ok-carry_both c =
    let pushes : Pushes c.args.state.now.world.left.end =
    subst (λ (b : Bool). IsPushed b c.args.state.now.world.left.end) c.if-pushed.true c.in_ok-pushed.ensures.1 in
    transmission_played c.args.counter c.said-place.result c.said-answer.result c.next_counter.result c.args.state.now c.take_one.new.state c.carry_both.new.state
    c.said-place.ensures c.said-answer.ensures c.next_counter.ensures pushes c.in_ok-pushed.ensures.0 c.in_ok-carry_both.ensures
