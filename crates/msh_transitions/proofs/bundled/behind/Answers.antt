use Rattle.std.proofs.Common.{sym, subst}
use Rattle.std.proofs.lemmas.Result.{IfOk-weaker}
use Rattle.as4_effects.specs.declared.queue.Queue.TheVariants as queue
use Rattle.msh_state.specs.Standing.{CanStand}
use Rattle.msh_transitions.proofs.BundledLemmas.{both_stand}
use Rattle.msh_transitions.proofs.bundled.behind.Goals as goal

pub returns-clause-stands : goal.returns-clause-stands
returns-clause-stands c =
    IfOk-weaker c.send_behind.result _ _
    (λ outcome effects. subst (CanStand c.args.tables.now.end) (sym effects)
    (both_stand (queue.Channel c.args.mpc.now) c.args.number c.in-Some.head c.args.tables.now.end c.submitted-numbered.ensures.numbered
    c.requires (rw c.in_ok-try_clone.ensures at c.in-Some.ensures.value)))
    c.send_behind.ensures.effects
