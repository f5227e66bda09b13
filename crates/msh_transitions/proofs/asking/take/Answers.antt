use Rattle.std.proofs.Common.{refl}
use Rattle.as4_effects.specs.declared.queue.Queue.TheVariants as queue
use Rattle.msh_transitions.proofs.HeadLemmas.{head_fits}
use Rattle.msh_transitions.proofs.OwnRows.{takes_head}
use Rattle.msh_transitions.proofs.StandLemmas.{gives_stands}
use Rattle.msh_transitions.proofs.asking.take.Goals as goal

pub returns-in-Ok-Ok-clause-row : goal.returns-in-Ok-Ok-clause-row
returns-in-Ok-Ok-clause-row c =
    takes_head c.args.tables.now.end c.in-Some.number c.in-Some-get.submission.now _ _ _ c.in-Some.ensures.value c.in-Some.ensures.found
    c.in-Some-get.ensures (rw c.in-Ok-Ok.ensures' at c.gives.ensures) refl refl

pub returns-in-Ok-Ok-clause-stands : goal.returns-in-Ok-Ok-clause-stands
returns-in-Ok-Ok-clause-stands c =
    gives_stands _ _ _ _ c.gives.ensures
    (head_fits queue.Push c.args.tables.now.end c.in-Some.number c.in-Some.ensures.value c.in-Some.ensures.found)
