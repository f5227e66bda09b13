use Rattle.std.proofs.Common.{ap, sym, ◌∙◌}
use Rattle.std.specs.List.{list_any}
use Rattle.mime_package.specs.Steps.{is_id}
use Rattle.mime_package.proofs.RootLemmas.{two_have_id, one_has_id}
use Rattle.mime_package.proofs.root.only_place.Goals as goal

pub returns-then-has_any-clause-place : goal.returns-then-has_any-clause-place
returns-then-has_any-clause-place c =
    two_have_id c.args.id.now c.args.parts.now c.in_ok-at.at c.in_ok-at.ensures.place
    (ap (list_any (λ p. is_id c.args.id.now p.id)) (sym c.split_at.ensures.back) ∙ sym c.has_any.ensures ∙ c.if-has_any.true)

pub returns-else-has_any-clause-place : goal.returns-else-has_any-clause-place
returns-else-has_any-clause-place c =
    one_has_id c.args.id.now c.args.parts.now c.in_ok-at.at c.in_ok-at.ensures.place
    (ap (list_any (λ p. is_id c.args.id.now p.id)) (sym c.split_at.ensures.back) ∙ sym c.has_any.ensures ∙ c.if-has_any.false)
