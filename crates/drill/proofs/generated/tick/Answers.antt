use Rattle.std.proofs.Common.{arith}
use Rattle.drill.proofs.GeneratedLemmas.{tick_right, tick_said, tick_short}
use Rattle.drill.proofs.generated.tick.Goals as goal

pub play_one-requires-clause-spelled : goal.play_one-requires-clause-spelled
play_one-requires-clause-spelled c = tick_said c.args.moment c.requires.dated

pub play_one-requires-clause-short : goal.play_one-requires-clause-short
play_one-requires-clause-short c = tick_short c.args.moment (omega arith)

pub play_one-requires-clause-right : goal.play_one-requires-clause-right
play_one-requires-clause-right c = tick_right c.args.moment c.args.state.now c.requires.dated
