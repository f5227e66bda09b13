use Rattle.std.proofs.Common.{◌≡◌, [], ◌∷◌, ◌++◌, ◌∙◌}
use Rattle.as4_disk.specs.Image.{Image}
use Rattle.as4_disk.proofs.RunLemmas.{then}
use Rattle.journal.specs.Store.{picked_leaf}
use Rattle.journal.proofs.OtherLemmas.{extended}
use Rattle.journal.proofs.other.close_other.Goals as goal

pub returns-in_err-write_other-clause-any_moment : goal.returns-in_err-write_other-clause-any_moment
returns-in_err-write_other-clause-any_moment g c leaf other is reads = c.write_other.ensures.any_moment leaf is

pub returns-in_err-sync_other-clause-any_moment : goal.returns-in_err-sync_other-clause-any_moment
returns-in_err-sync_other-clause-any_moment g c leaf other is reads =
    then g.D.Disk c.args.disk.now c.write_other.new.disk c.sync_other.new.disk (λ (image : Image). picked_leaf image ≡ leaf)
    (c.write_other.ensures.any_moment leaf is) (c.sync_other.ensures.any_moment leaf (c.in_ok-write_other.ensures.kept leaf other is reads).0)

pub returns-clause-any_moment : goal.returns-clause-any_moment
returns-clause-any_moment g c leaf other is reads =
    then g.D.Disk c.args.disk.now c.write_other.new.disk c.sync_other.new.disk (λ (image : Image). picked_leaf image ≡ leaf)
    (c.write_other.ensures.any_moment leaf is) (c.sync_other.ensures.any_moment leaf (c.in_ok-write_other.ensures.kept leaf other is reads).0)

pub returns-clause-kept : goal.returns-clause-kept
returns-clause-kept g c leaf other place is reads =
    let wrote = c.in_ok-write_other.ensures.kept leaf other is reads in
    c.in_ok-sync_other.ensures.kept leaf (other ++ 0 ∷ []) wrote.0 (λ b told. wrote.1 b told ∙ extended c.args.at (0 ∷ []) other place)
