use Rattle.std.proofs.Common.{subst}
use Rattle.msh_core.specs.Small.{StandsFor}
use Rattle.msh_core.specs.declared.small.SmallPlan.{SmallPlan}
use Rattle.msh_core.proofs.SmallLemmas.{rest_done}
use Rattle.msh_core.proofs.machine.Core.commit_small.Goals as goal

pub returns-in-Tick-clause-step : goal.returns-in-Tick-clause-step
returns-in-Tick-clause-step c outcome stands =
    c.commit_tick.ensures.step outcome (subst (λ (p : SmallPlan). StandsFor c.args.self.now.end p outcome) c.in-Tick.is stands)

pub returns-in-Confirm-clause-step : goal.returns-in-Confirm-clause-step
returns-in-Confirm-clause-step c outcome stands =
    c.commit_confirm.ensures.step outcome
    (subst (λ (p : SmallPlan). StandsFor c.args.self.now.end p outcome) c.in-Confirm.is stands)

pub returns-in-Rest-clause-step : goal.returns-in-Rest-clause-step
returns-in-Rest-clause-step c outcome stands =
    rest_done c.args.self.now.end c.in-Rest.reply outcome
    (subst (λ (p : SmallPlan). StandsFor c.args.self.now.end p outcome) c.in-Rest.is stands)
