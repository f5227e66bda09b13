use Rattle.std.proofs.Common.{List, ℕ, sym, subst}
use Rattle.as4_http.specs.Framing.{FramesAs}
use Rattle.as4_http.specs.declared.framing.Framing.TheVariants.{ToEnd}
use Rattle.as4_http.proofs.RefusedLemmas.{refused_any}
use Rattle.as4_http.proofs.response_start.response_start.Goals as goal

pub returns-in_err-said-clause-none : goal.returns-in_err-said-clause-none
returns-in_err-said-clause-none c =
    refused_any c.from_residual.result (λ head start at says.
    c.in_err-said.ensures.err says.said
    (subst (λ (fields : List (List ℕ × List ℕ)). FramesAs ToEnd fields says.said) (sym at.fields) says.says))
