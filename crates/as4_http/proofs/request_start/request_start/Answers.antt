use Rattle.std.proofs.Common.{◌≡◌, arith, Result, Ok, Err, List, ℕ, sym, subst}
use Rattle.std.specs.Result.{OnErr}
use Rattle.as4_http.specs.Framing.{FramesAs}
use Rattle.as4_http.specs.declared.framing.Framing.{Framing}
use Rattle.as4_http.specs.declared.framing.Framing.TheVariants.{Empty}
use Rattle.as4_http.specs.declared.refusal.HttpRefusal.{HttpRefusal}
use Rattle.as4_http.proofs.RefusedLemmas.{refused_any}
use Rattle.as4_http.proofs.request_start.request_start.Goals as goal

-- what holds where no framing was found
unframed : {P : Type 0} (r : Result Framing HttpRefusal) → ((framing : Framing) → r ≡ Ok framing → ⊥) → OnErr r P → P
unframed (Ok framing) none fact = absurd (none framing (λ i. Ok framing))
unframed (Err refusal) none fact = fact

pub returns-in_err-framing-clause-none : goal.returns-in_err-framing-clause-none
returns-in_err-framing-clause-none c =
    refused_any c.from_residual-in_err-framing.result (λ head start at says.
    unframed c.framing_of.result (λ framing is. grind arith) c.framing_of.ensures.err start.framing
    (subst (λ (fields : List (List ℕ × List ℕ)). FramesAs Empty fields start.framing) (sym at.fields) says.framing))
