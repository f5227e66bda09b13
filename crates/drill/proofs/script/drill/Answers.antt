use Rattle.std.proofs.Common.{[], refl}
use Rattle.as4_flow.specs.Flow.{flow}
use Rattle.drill.specs.Playing.{pair_meaning}
use Rattle.drill_world.specs.Transcript.{DrillState, new_state}
use Rattle.drill.proofs.EndLemmas.{ends_at_once}
use Rattle.drill.proofs.script.drill.Goals as goal

pub returns-in-Err-clause-ends : goal.returns-in-Err-clause-ends
returns-in-Err-clause-ends g c =
    ends_at_once DrillState pair_meaning (refl, refl) (c.a_drill_delivers_once.ensures [] [] new_state (refl, refl))
    (flow (g.S.Source.left c.args.source.now) (g.K.Sink.taken c.args.sink.now) (g.S.Source.faults c.args.source.now) (g.K.Sink.faults c.args.sink.now))
