use Rattle.std.proofs.Common.{List, Option, ap, sym, subst, ◌∙◌}
use Rattle.as4_audit.specs.Audit.{Says}
use Rattle.as4_audit.specs.Start.{start_of}
use Rattle.as4_audit.specs.declared.finding.Audit.TheVariants as audit
use Rattle.as4_audit.proofs.AnswerLemmas.{excluded, one_place, same_records}
use Rattle.as4_effects.specs.declared.effect.Effect.{Effect}
use Rattle.exchange_model.specs.End.{empty_end}
use Rattle.as4_audit.proofs.laws.a_leaf_has_one_answer.Goals as goal

pub returns-clause-excluded : goal.returns-clause-excluded
returns-clause-excluded c modes leaf start index events said other =
    let same = same_records modes leaf _ _ c.one_body.ensures said other in
    let right = subst (λ (rs : List (Option (List Effect))). Says modes rs (audit.Yes start events)) same said.says in
    excluded modes (start_of other.records) empty_end other.records events index right.1 other.says

pub returns-clause-place : goal.returns-clause-place
returns-clause-place c modes leaf a b x y =
    let same = same_records modes leaf _ _ c.one_body.ensures x y in
    let wrong = subst (λ (rs : List (Option (List Effect))). Says modes rs (audit.No a)) same x.says in
    one_place modes (start_of y.records) empty_end y.records a b wrong y.says

pub returns-clause-start : goal.returns-clause-start
returns-clause-start c modes leaf a b events others x y =
    let same = same_records modes leaf _ _ c.one_body.ensures x y in
    x.says.0 ∙ ap start_of same ∙ sym y.says.0
