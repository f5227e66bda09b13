use Rattle.std.proofs.Common.{◌≡◌, ◌⊎◌, inl, [], ◌∷◌, ◌++◌}
use Rattle.as4_disk.specs.Image.{Image}
use Rattle.as4_disk.proofs.RunLemmas.{first_then}
use Rattle.journal.specs.Store.{picked_leaf}
use Rattle.journal.proofs.other.finish_other.Goals as goal

pub returns-in_err-close_other-clause-any_moment : goal.returns-in_err-close_other-clause-any_moment
returns-in_err-close_other-clause-any_moment g c leaf other place is reads = inl (c.close_other.ensures.any_moment leaf other is reads)

pub returns-in_err-pick_other-clause-any_moment : goal.returns-in_err-pick_other-clause-any_moment
returns-in_err-pick_other-clause-any_moment g c leaf other place is reads =
    let closed = c.in_ok-close_other.ensures.kept leaf other place is reads in
    first_then g.D.Disk c.args.disk.now c.close_other.new.disk c.pick_other.new.disk (λ (image : Image). picked_leaf image ≡ leaf) (λ (image : Image). (picked_leaf image ≡ leaf) ⊎ (picked_leaf image ≡ other ++ 0 ∷ []))
    (c.close_other.ensures.any_moment leaf other is reads) (c.pick_other.ensures.any_moment leaf (other ++ 0 ∷ []) closed.0 closed.1)

pub returns-clause-any_moment : goal.returns-clause-any_moment
returns-clause-any_moment g c leaf other place is reads =
    let closed = c.in_ok-close_other.ensures.kept leaf other place is reads in
    first_then g.D.Disk c.args.disk.now c.close_other.new.disk c.pick_other.new.disk (λ (image : Image). picked_leaf image ≡ leaf) (λ (image : Image). (picked_leaf image ≡ leaf) ⊎ (picked_leaf image ≡ other ++ 0 ∷ []))
    (c.close_other.ensures.any_moment leaf other is reads) (c.pick_other.ensures.any_moment leaf (other ++ 0 ∷ []) closed.0 closed.1)

pub returns-clause-picked : goal.returns-clause-picked
returns-clause-picked g c leaf other place is reads =
    let closed = c.in_ok-close_other.ensures.kept leaf other place is reads in
    c.in_ok-pick_other.ensures.picked leaf (other ++ 0 ∷ []) closed.0 closed.1
