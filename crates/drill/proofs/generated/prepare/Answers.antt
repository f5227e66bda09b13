use Rattle.std.proofs.Common.{[], ◌∷◌, refl, None}
use Rattle.drill.specs.Generated.{invoice, submissions}
use Rattle.drill_script.specs.declared.line.Line.TheVariants as line
use Rattle.drill_script.specs.declared.line.Way.TheVariants.{Push}
use Rattle.drill.proofs.GeneratedLemmas.{leads_more}
use Rattle.drill.proofs.generated.prepare.Goals as goal

pub returns-clause-leads : goal.returns-clause-leads
returns-clause-leads c =
    leads_more c.submit_all.result (line.Mode invoice None Push 10 3000 ∷ []) (submissions c.args.seed c.args.seed c.args.count)
    (line.Mode invoice None Push 10 3000 ∷ submissions c.args.seed c.args.seed c.args.count)
    c.args.state.now c.name_mode.new.state c.submit_all.new.state refl c.in_ok-name_mode.ensures c.submit_all.ensures.leads
