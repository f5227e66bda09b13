use Rattle.msh_state.proofs.StepLemmas.{failed_step}
use Rattle.msh_state.proofs.tables.EndTables.tick.Goals as goal

pub invariant_of-self : goal.invariant_of-self
invariant_of-self c =
    (failed_step c.args.tick.moment _ _ _ c.self.invariant.0 c.fail_spent-failed.ensures.sent, c.args.tick.dated, c.self.invariant.2, c.self.invariant.3)
