-- Two texts, one written after the other.
use Rattle.std.proofs.Common.{◌≡◌, ℕ, ◌+◌, List, ◌++◌, length, take, Option, sym, ap, ◌∙◌, arith, length-append}
use Rattle.std.proofs.Math.Seq.{take-append-add}
use Rattle.as4_flow.specs.Flow.{TakesFront, appended}
use Rattle.as4_flow.proofs.FlowLemmas.{appended_append}

-- a prefix of the second text, after the first, is a prefix of both
pub second_prefix : (first second : List ℕ) (old middle new : Option (List ℕ)) → middle ≡ appended old first
    → TakesFront second middle new → TakesFront (first ++ second) old new
second_prefix first second old middle new one other = (
  length first + other.0,
  omega (arith, length-append first second, other.1),
  other.2 ∙ ap (λ (m : Option (List ℕ)). appended m (take other.0 second)) one ∙ appended_append old first (take other.0 second)
      ∙ ap (appended old) (sym (take-append-add first second other.0)),
)
