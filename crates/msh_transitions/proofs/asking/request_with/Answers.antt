use Rattle.msh_transitions.proofs.asking.request_with.Goals as goal

pub returns-in-Ok-Ok-clause-row : goal.returns-in-Ok-Ok-clause-row
returns-in-Ok-Ok-clause-row c = (c.in-Ok-Ok.pair, c.in-Ok-Ok.ensures', rw c.in-Ok-Ok.ensures at c.rests.ensures)
