use Rattle.std.proofs.Common.{ap, map, sym, ◌∙◌}
use Rattle.mime_fields.specs.Lent.{part_value}
use Rattle.mime_package.specs.Reading.{with_root}
use Rattle.mime_package.specs.Steps.{taken_at}
use Rattle.mime_package.proofs.RootedLemmas.{not_rooted, encoded_there, rooted_there}
use Rattle.mime_package.proofs.root.checked_place.Goals as goal

pub returns-then-not-branch-clause-root : goal.returns-then-not-branch-clause-root
returns-then-not-branch-clause-root c =
    let values = map part_value c.args.parts.now in
    ap (λ place. with_root values (taken_at place values)) c.in-Some.is
    ∙ not_rooted c.args.parts.now c.in-Some.at c.index-parts-at.result (rw c.in-Some.is at c.requires) c.index-parts-at.is (sym c.in_ok-is_root.ensures ∙ c.if-not-branch.true)

pub returns-in-None-clause-root : goal.returns-in-None-clause-root
returns-in-None-clause-root c =
    let values = map part_value c.args.parts.now in
    ap (λ place. with_root values (taken_at place values)) c.in-Some.is
    ∙ rooted_there c.args.parts.now c.in-Some.at c.index-parts-at.result (rw c.in-Some.is at c.requires) c.index-parts-at.is (sym c.in_ok-is_root.ensures ∙ c.if-not-branch.false)
    (sym c.encoded_at.ensures ∙ c.in-None.is)

pub returns-in-Some-encoded_at-clause-root : goal.returns-in-Some-encoded_at-clause-root
returns-in-Some-encoded_at-clause-root c =
    let values = map part_value c.args.parts.now in
    ap (λ place. with_root values (taken_at place values)) c.in-Some.is
    ∙ encoded_there c.args.parts.now c.in-Some.at c.in-Some-encoded_at.index c.index-parts-at.result (rw c.in-Some.is at c.requires) c.index-parts-at.is
    (sym c.in_ok-is_root.ensures ∙ c.if-not-branch.false) (sym c.encoded_at.ensures ∙ c.in-Some-encoded_at.is)
