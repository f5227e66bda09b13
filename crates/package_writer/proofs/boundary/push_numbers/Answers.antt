use Rattle.std.proofs.Common.{arith, sym, ap, ◌∙◌, refl, append-nil, append_assoc, ◌++◌}
use Rattle.package_writer.proofs.SearchLemmas.{none_there, numbers_from}
use Rattle.package_writer.proofs.boundary.push_numbers.Goals as goal

pub loop-at-preserved : goal.loop-at-preserved
loop-at-preserved c =
    let step = numbers_from c.loop-at.rest.now c.in-Some.at (rw c.new-finder.ensures at c.in-Some.ensures) in
    c.loop-at.invariant
    ∙ (rw (step, c.in_ok-push_number.ensures, c.split_at-in-Some.ensures.back, c.split_at.ensures.back)
    (sym (append_assoc c.loop-at.numbers.items _ _)))

pub returns : goal.returns
returns c =
    let none = none_there c.loop-at.rest.now (rw c.new-finder.ensures at c.in_default.ensures) in
    sym (c.loop-at.invariant ∙ (rw none (append-nil c.loop-at.numbers.items)))
