use Rattle.std.proofs.Common.{rules, ◌≡◌, ◌≤◌, Some, length, sym, arith}
use Rattle.std.specs.Prelude.{slice_get}
use Rattle.std.proofs.lemmas.Option.{slice_get_read}
use Rattle.due_heap.proofs.SumLemmas.{count_due, count_late, count_past, count_within}
use Rattle.due_heap.proofs.counting.+count_under.Goals as goal

pub returns-in-Some-clause-count : goal.returns-in-Some-clause-count
returns-in-Some-clause-count t c =
    let there : slice_get c.args.pairs.now c.args.at ≡ Some c.in-Some.pair.now = search (rules, slice_get_read) in
    let parts = count_due c.args.moment c.args.at c.args.pairs.now c.in-Some.pair.now there c.if-pair-moment.true in
    omega (arith, parts, c.count_under-left.ensures.count, c.count_under-right.ensures.count)

pub returns-in-Some-clause-within : goal.returns-in-Some-clause-within
returns-in-Some-clause-within t c =
    let there : slice_get c.args.pairs.now c.args.at ≡ Some c.in-Some.pair.now = search (rules, slice_get_read) in
    let parts = count_due c.args.moment c.args.at c.args.pairs.now c.in-Some.pair.now there c.if-pair-moment.true in
    omega (arith, parts, c.count_under-left.ensures.count, c.count_under-right.ensures.count, count_within c.args.moment c.args.at c.args.pairs.now)

pub returns-in_default-clause-count : goal.returns-in_default-clause-count
returns-in_default-clause-count t c =
    let there : slice_get c.args.pairs.now c.args.at ≡ Some c.in-Some.pair.now = search (rules, slice_get_read) in
    sym (count_late c.args.moment c.args.at c.args.pairs.now c.in-Some.pair.now c.requires.order c.requires.few there c.if-pair-moment.false)

pub returns-in_default-2-clause-count : goal.returns-in_default-2-clause-count
returns-in_default-2-clause-count t c =
    let past : length c.args.pairs.now ≤ c.args.at = search rules in
    sym (count_past c.args.moment c.args.at c.args.pairs.now past)
