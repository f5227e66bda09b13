use Rattle.std.proofs.Common.{sym, ◌∙◌}
use Rattle.std.proofs.lemmas.Result.{IfOk-weaker}
use Rattle.as4_effects.specs.declared.queue.Queue.TheVariants as queue
use Rattle.msh_transitions.proofs.ComingRows.{code_1_is_known, code_6_is_known, head_stands}
use Rattle.msh_transitions.proofs.coming.pull.Goals as goal

pub errs-requires : goal.errs-requires
errs-requires c = code_1_is_known

pub errs-requires-in-None : goal.errs-requires-in-None
errs-requires-in-None c = code_6_is_known

pub returns-in-Some-clause-stands : goal.returns-in-Some-clause-stands
returns-in-Some-clause-stands c =
    let found = rw c.in-Some.is at c.in_ok-head.ensures.found in
    IfOk-weaker c.send.result _ _
    (λ outcome. head_stands (queue.Channel c.args.mpc.now) c.args.tables.now.end c.in-Some.number outcome
    (sym c.in-Some.is ∙ c.in_ok-head.ensures.value) found)
    c.send.ensures
