use Rattle.msh_transitions.proofs.FreeLemmas.{comes}
use Rattle.msh_transitions.proofs.events.row_of_message.Goals as goal

pub returns-in-User-clause-free : goal.returns-in-User-clause-free
returns-in-User-clause-free c row h free = absurd (comes _ _ _ _ row h free)

pub returns-in-Signal-clause-free : goal.returns-in-Signal-clause-free
returns-in-Signal-clause-free c row h free = absurd (comes _ _ _ _ row h free)

pub returns-in-Pair-clause-free : goal.returns-in-Pair-clause-free
returns-in-Pair-clause-free c row h free = absurd (comes _ _ _ _ row h free)
