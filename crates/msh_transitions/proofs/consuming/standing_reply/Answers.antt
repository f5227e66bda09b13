use Rattle.msh_transitions.proofs.OwnRows.{refused_speaks, told_as}
use Rattle.msh_transitions.proofs.consuming.standing_reply.Goals as goal

pub returns-in-Some-Pending-clause-reply : goal.returns-in-Some-Pending-clause-reply
returns-in-Some-Pending-clause-reply c =
    told_as _ _ _ (rw c.in-Some-Pending.field-0-is at c.in-Some-Pending.ensures) c.in-Some.ensures.found (λ r. absurd cc)

pub returns-in-Some-Receipted-clause-reply : goal.returns-in-Some-Receipted-clause-reply
returns-in-Some-Receipted-clause-reply c =
    told_as _ _ _ (rw c.in-Some-Receipted.field-0-is at c.in-Some-Receipted.ensures) c.in-Some.ensures.found (λ r. absurd cc)

pub returns-in-Some-Failed-clause-reply : goal.returns-in-Some-Failed-clause-reply
returns-in-Some-Failed-clause-reply c =
    told_as _ _ _ (rw c.in-Some-Failed.field-0-is at c.in-Some-Failed.ensures) c.in-Some.ensures.found (λ r. absurd cc)

pub returns-in-Some-Refused-clause-free : goal.returns-in-Some-Refused-clause-free
returns-in-Some-Refused-clause-free c bare =
    absurd (refused_speaks _ _ (rw c.in-Some-Refused.field-0-is at c.in-Some-Refused.ensures) c.in-Some.ensures.found bare)
