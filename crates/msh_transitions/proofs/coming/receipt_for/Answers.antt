use Rattle.msh_transitions.proofs.ComingRows.{is_for}
use Rattle.msh_transitions.proofs.coming.receipt_for.Goals as goal

pub returns-clause-found : goal.returns-clause-found
returns-clause-found c =
    is_for c.args.ref_to.now c.args.copy.now c.args.tables.now.end.sent c.in-Some.number c.in-Some-get.submission.now
    c.in-Some.ensures.found c.in-Some-get.ensures (λ other. let no_other = c.is_other.ensures.1 other in cc)
