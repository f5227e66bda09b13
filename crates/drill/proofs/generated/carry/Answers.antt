use Rattle.std.proofs.Common.{[], ◌∷◌, None, arith}
use Rattle.drill_script.specs.declared.line.Line.TheVariants as line
use Rattle.drill_script.specs.declared.line.Stoppable.TheVariants as run
use Rattle.drill.proofs.GeneratedLemmas.{came_right, came_said, came_short, carried_twice, lost_right, lost_said, lost_short}
use Rattle.drill.proofs.SpendLemmas.{leads_events}
use Rattle.drill.proofs.generated.carry.Goals as goal

pub play_one-requires-clause-spelled : goal.play_one-requires-clause-spelled
play_one-requires-clause-spelled c = came_said c.args.end c.args.place (omega arith)

pub play_one-requires-clause-short : goal.play_one-requires-clause-short
play_one-requires-clause-short c = came_short c.args.end c.args.place (omega arith)

pub play_one-requires-clause-right : goal.play_one-requires-clause-right
play_one-requires-clause-right c = came_right c.args.end c.args.place c.args.state.now c.requires.pair (omega arith)

pub play_one-requires-then-counter-eq4-clause-spelled : goal.play_one-requires-then-counter-eq4-clause-spelled
play_one-requires-then-counter-eq4-clause-spelled c = lost_said c.args.end c.args.place (omega arith)

pub play_one-requires-then-counter-eq4-clause-short : goal.play_one-requires-then-counter-eq4-clause-short
play_one-requires-then-counter-eq4-clause-short c = lost_short c.args.end c.args.place (omega arith)

pub play_one-requires-then-counter-eq4-clause-right : goal.play_one-requires-then-counter-eq4-clause-right
play_one-requires-then-counter-eq4-clause-right c = lost_right c.args.end c.args.place c.play_one.new.state c.requires.pair (omega arith)

pub play_one-requires-then-counter-eq4-clause-few : goal.play_one-requires-then-counter-eq4-clause-few
play_one-requires-then-counter-eq4-clause-few c =
    let more = leads_events (line.Run (run.Came c.args.end None c.args.place) ∷ []) c.args.state.now c.play_one.new.state c.in_ok-play_one.ensures in
    omega (arith, more)

pub returns-then-counter-eq4 : goal.returns-then-counter-eq4
returns-then-counter-eq4 c =
    carried_twice c.play_one-then-counter-eq4.result c.args.counter c.args.end c.args.place c.args.state.now c.play_one.new.state
    c.play_one-then-counter-eq4.new.state c.if-counter-eq2.false c.if-counter-eq4.true c.in_ok-play_one.ensures c.play_one-then-counter-eq4.ensures
