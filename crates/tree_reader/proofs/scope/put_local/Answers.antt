use Rattle.std.proofs.Common.{◌<◌, refl}
use Rattle.std.specs.Vec.{vec_len}
use Rattle.tree_reader.proofs.ReadingLemmas.{stack_last, stack_set}
use Rattle.tree_reader.proofs.scope.put_local.Goals as goal

pub returns-in_ok-append-clause-ok : goal.returns-in_ok-append-clause-ok
returns-in_ok-append-clause-ok c =
    let v = c.args.around.now in
    let some : 0 < vec_len v = c.in-Some.ensures.variant.0 refl in
    rw (stack_last v.items (vec_len v) c.in-Some.open.now v.ok.0 some c.in-Some.ensures.value, stack_set v.items (vec_len v) _ v.ok.0 some, c.in_ok-append.ensures) refl
