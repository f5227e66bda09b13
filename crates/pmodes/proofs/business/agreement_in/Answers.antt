use Rattle.pmodes.specs.ModeParts.{agreement_in}
use Rattle.pmodes.proofs.business.agreement_in.Goals as goal

pub returns-in-Err-clause-refused : goal.returns-in-Err-clause-refused
unfolding agreement_in
returns-in-Err-clause-refused c some = rw (c.in-Err.ensures.refused some)
