use Rattle.std.proofs.Common.{arith}
use Rattle.drill.specs.Generated.{carried}
use Rattle.drill_script.specs.declared.line.EndName.TheVariants as name
use Rattle.drill.proofs.GeneratedLemmas.{both_carried}
use Rattle.drill.proofs.SpendLemmas.{carried_few, leads_events}
use Rattle.drill.proofs.generated.carry_both.Goals as goal

pub carry-requires-2-clause-few : goal.carry-requires-2-clause-few
carry-requires-2-clause-few c =
    let more = leads_events (carried c.args.counter name.B c.args.place) c.args.state.now c.carry.new.state c.in_ok-carry.ensures in
    omega (arith, more, carried_few c.args.counter name.B c.args.place)

pub returns : goal.returns
returns c =
    both_carried c.carry-2.result c.args.counter c.args.place c.args.answer c.args.state.now c.carry.new.state c.carry-2.new.state
    c.if-counter-eq2.false c.in_ok-carry.ensures c.carry-2.ensures
