use Rattle.drill.proofs.GeneratedLemmas.{take_right, take_said, take_short}
use Rattle.drill.proofs.SpendLemmas.{pushed_is}
use Rattle.drill.proofs.generated.take_one.Goals as goal

pub play_one-requires-clause-spelled : goal.play_one-requires-clause-spelled
play_one-requires-clause-spelled c = take_said

pub play_one-requires-clause-short : goal.play_one-requires-clause-short
play_one-requires-clause-short c = take_short

pub play_one-requires-clause-right : goal.play_one-requires-clause-right
play_one-requires-clause-right c = take_right c.args.state.now

pub returns : goal.returns
returns c = (
  c.in_ok-play_one.ensures,
  pushed_is c.said-before.result c.said.result c.args.state.now c.play_one.new.state c.in_ok-play_one.ensures c.said-before.ensures c.said.ensures,
)
