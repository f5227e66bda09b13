use Rattle.pmodes.specs.ModeParts.{service_in}
use Rattle.pmodes.proofs.ExitLemmas.{passes_on}
use Rattle.pmodes.proofs.business.service_in.Goals as goal

pub returns-in_err-kind-clause-refused : goal.returns-in_err-kind-clause-refused
unfolding service_in
returns-in_err-kind-clause-refused c =
    passes_on c.from_residual-in_err-kind.result c.in_err-kind.field-0.0 _ c.from_residual-in_err-kind.ensures.1
    (λ some. rw (c.in_ok-value.ensures.found, c.in_err-kind.ensures.refused some))

pub returns-clause-found : goal.returns-clause-found
unfolding service_in
returns-clause-found c = rw (c.in_ok-value.ensures.found, c.in_ok-kind.ensures.found)
