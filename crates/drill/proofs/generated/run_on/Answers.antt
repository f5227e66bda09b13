use Rattle.drill.specs.Generated.{Leads, Rounds, ticks_a}
use Rattle.drill_world.specs.Transcript.{DrillState}
use Rattle.drill.proofs.GeneratedLemmas.{on_ok}
use Rattle.drill.proofs.generated.run_on.Goals as goal

pub returns : goal.returns
returns c =
    on_ok c.tick.result (Leads (ticks_a 33000) c.play_rounds.new.state c.tick.new.state)
    ((done : DrillState) × Rounds 11 0 0 c.args.state.now done × Leads (ticks_a 33000) done c.tick.new.state)
    (λ last. (c.play_rounds.new.state, c.in_ok-play_rounds.ensures.rounds, last)) c.tick.ensures
