use Rattle.pmodes.specs.ModeParts.{agreement_with}
use Rattle.pmodes.proofs.business.agreement_with.Goals as goal

pub returns-in-Err-clause-refused : goal.returns-in-Err-clause-refused
unfolding agreement_with
returns-in-Err-clause-refused c some = rw (c.in-Some.is, c.in-Err.ensures.refused some)
