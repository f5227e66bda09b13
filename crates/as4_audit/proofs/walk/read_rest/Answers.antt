use Rattle.std.proofs.Common.{◌∷◌, [], ◌++◌, take}
use Rattle.as4_audit.proofs.ListLemmas.{bytes_more, bytes_of, read_more}
use Rattle.as4_audit.proofs.walk.read_rest.Goals as goal

pub loop-body-preserved : goal.loop-body-preserved
loop-body-preserved c =
    let i = c.loop-body.body-index in
    let so = c.loop-body.invariant in
    rw (bytes_more c.args.bodies.now i c.loop-body-test.true)
    (so.0 ++ c.in_ok-item.item ∷ [], read_more (bytes_of (take i c.args.bodies.now)) so.0 _ c.in_ok-item.item so.1 c.in_ok-item.ensures)
