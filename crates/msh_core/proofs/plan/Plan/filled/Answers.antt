use Rattle.std.proofs.Common.{ap, ◌∙◌}
use Rattle.msh_core.specs.Machine.{Planned}
use Rattle.msh_core.proofs.PreparedLemmas.{still_ready}
use Rattle.msh_core.proofs.plan.Plan.filled.Goals as goal

pub returns-clause-ready : goal.returns-clause-ready
returns-clause-ready c machine ready =
    still_ready machine c.args.self c.of.result
    (ap (λ (p : Planned). p.outcome.effects) c.of.ensures ∙ c.into_parts-effects.ensures.effects)
    (ap (λ (p : Planned). p.queues) c.of.ensures ∙ c.into_parts-effects.ensures.queues) ready
