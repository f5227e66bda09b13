use Rattle.drill.proofs.GeneratedLemmas.{submit_named, submit_right, submit_said, submit_short}
use Rattle.drill.proofs.generated.submit_one.Goals as goal

pub play_one-requires-clause-spelled : goal.play_one-requires-clause-spelled
play_one-requires-clause-spelled c = submit_said c.in_ok-mode.mode c.args.size c.in_ok-mode.ensures c.requires.small

pub play_one-requires-clause-short : goal.play_one-requires-clause-short
play_one-requires-clause-short c = submit_short c.in_ok-mode.mode c.args.size c.in_ok-mode.ensures c.requires.small

pub play_one-requires-clause-right : goal.play_one-requires-clause-right
play_one-requires-clause-right c = submit_right c.in_ok-mode.mode c.args.size c.args.state.now c.in_ok-mode.ensures c.requires.small

pub returns : goal.returns
returns c = submit_named c.play_one.result c.in_ok-mode.mode c.args.size c.args.state.now c.play_one.new.state c.in_ok-mode.ensures c.play_one.ensures
