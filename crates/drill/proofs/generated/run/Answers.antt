use Rattle.std.proofs.Common.{◌∷◌, subst, None}
use Rattle.drill.specs.Generated.{IsGenerated, Leads, Rounds, invoice, submissions, ticks_a}
use Rattle.drill_world.specs.Transcript.{DrillState, new_state}
use Rattle.drill_script.specs.declared.line.Line.TheVariants as line
use Rattle.drill_script.specs.declared.line.Way.TheVariants.{Push}
use Rattle.drill.proofs.GeneratedLemmas.{on_ok}
use Rattle.drill.proofs.generated.run.Goals as goal

pub returns : goal.returns
unfolding IsGenerated
returns c =
    let begun : Leads (line.Mode invoice None Push 10 3000 ∷ submissions c.args.seed c.args.seed c.args.count) new_state c.prepare.new.state =
    subst (λ (s : DrillState). Leads (line.Mode invoice None Push 10 3000 ∷ submissions c.args.seed c.args.seed c.args.count) s c.prepare.new.state)
    c.requires.new c.in_ok-prepare.ensures.leads in
    on_ok c.run_on.result
    ((done : DrillState) × Rounds 11 0 0 c.prepare.new.state done × Leads (ticks_a 33000) done c.run_on.new.state)
    (IsGenerated c.args.seed c.args.count c.run_on.new.state)
    (λ on. (c.prepare.new.state, on.0, begun, on.1, on.2)) c.run_on.ensures
