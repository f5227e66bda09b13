use Rattle.std.proofs.Common.{◌+◌, ◌*◌, arith}
use Rattle.drill.specs.Generating.{Grows, to_push}
use Rattle.drill.proofs.GeneratedLemmas.{on_ok}
use Rattle.drill.proofs.SpendLemmas.{push_few, ticks_grow}
use Rattle.drill.proofs.generated.play_round.Goals as goal

pub take_all-requires-clause-few : goal.take_all-requires-clause-few
take_all-requires-clause-few c =
    let grows = ticks_grow (3000 * c.args.round) c.args.state.now c.tick.new.state c.in_ok-tick.ensures in
    omega (arith, grows.0, grows.1, push_few c.tick.new.state, c.requires.handed, c.requires.few)

pub returns-clause-grows : goal.returns-clause-grows
returns-clause-grows c =
    let first = ticks_grow (3000 * c.args.round) c.args.state.now c.tick.new.state c.in_ok-tick.ensures in
    on_ok c.take_all.result (Grows (5 * to_push c.tick.new.state.world.left.end + 1) 0 c.tick.new.state c.take_all.new.state)
    (Grows 5002 0 c.args.state.now c.take_all.new.state)
    (λ rest. (omega (arith, first.0, first.1, rest.0, push_few c.tick.new.state, c.requires.handed), omega (arith, first.1, rest.1)))
    c.take_all.ensures.grows
