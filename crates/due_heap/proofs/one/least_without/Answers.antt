use Rattle.std.proofs.Common.{◌≡◌, Some, slice_get}
use Rattle.due_heap.proofs.LeastLemmas.{least_first_but, least_next}
use Rattle.due_heap.proofs.one.least_without.Goals as goal

pub returns-then-first-number : goal.returns-then-first-number
returns-then-first-number c =
    let found : slice_get c.args.pairs.now 0 ≡ Some c.in_ok-first.first.now = cc (c.in_ok-first.ensures.value) in
    least_first_but c.args.pairs.now c.in_ok-first.first.now c.args.number c.requires.order c.requires.few found c.if-first-number.true

pub returns : goal.returns
returns c =
    let found : slice_get c.args.pairs.now 0 ≡ Some c.in_ok-first.first.now = cc (c.in_ok-first.ensures.value) in
    least_next c.args.pairs.now c.in_ok-first.first.now c.args.number c.lesser_under.result c.requires.order c.requires.few c.requires.once found c.if-first-number.false c.lesser_under.ensures.place.1 c.lesser_under.ensures.place.0 c.lesser_under.ensures.lesser
