use Rattle.std.proofs.Common.{◌<◌, refl}
use Rattle.std.specs.Vec.{vec_len}
use Rattle.tree_reader.proofs.ReadingLemmas.{stack_last, stack_set}
use Rattle.tree_reader.proofs.reading.place.Goals as goal

pub returns-in_ok-push-in-Some : goal.returns-in_ok-push-in-Some
returns-in_ok-push-in-Some c =
    let v = c.args.reading.now.open in
    let some : 0 < vec_len v = c.in-Some.ensures.variant.0 refl in
    rw (stack_last v.items (vec_len v) c.in-Some.open.now v.ok.0 some c.in-Some.ensures.value, stack_set v.items (vec_len v) _ v.ok.0 some, c.requires, c.in_ok-push-in-Some.ensures.items) refl
