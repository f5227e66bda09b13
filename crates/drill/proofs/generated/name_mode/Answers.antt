use Rattle.drill.proofs.GeneratedLemmas.{mode_named, mode_right_named, mode_said_named, mode_short_named}
use Rattle.drill.proofs.generated.name_mode.Goals as goal

pub play_one-requires-clause-spelled : goal.play_one-requires-clause-spelled
play_one-requires-clause-spelled c = mode_said_named c.in_ok-name.name c.in_ok-name.ensures

pub play_one-requires-clause-short : goal.play_one-requires-clause-short
play_one-requires-clause-short c = mode_short_named c.in_ok-name.name c.in_ok-name.ensures

pub play_one-requires-clause-right : goal.play_one-requires-clause-right
play_one-requires-clause-right c = mode_right_named c.in_ok-name.name c.args.state.now c.in_ok-name.ensures c.requires

pub returns : goal.returns
returns c = mode_named c.play_one.result c.in_ok-name.name c.args.state.now c.play_one.new.state c.in_ok-name.ensures c.play_one.ensures
