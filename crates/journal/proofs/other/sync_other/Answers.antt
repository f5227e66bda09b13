use Rattle.std.proofs.Common.{◌≡◌, sym, ap, ◌∙◌}
use Rattle.as4_disk.specs.Image.{Image}
use Rattle.as4_disk.proofs.RunLemmas.{one_call}
use Rattle.journal.specs.Store.{picked_leaf}
use Rattle.journal.proofs.StoreLemmas.{settled_left, settled_within}
use Rattle.journal.proofs.other.sync_other.Goals as goal

pub returns-in_err-sync-clause-any_moment : goal.returns-in_err-sync-clause-any_moment
returns-in_err-sync-clause-any_moment g c leaf is =
    let old = c.args.disk.now in
    one_call g.D.Disk old c.sync.new.self (λ (image : Image). picked_leaf image ≡ leaf) (g.D.Disk.may_leave c.sync.new.self) c.sync.ensures.time
    (λ image left. (settled_left g.D.Disk old c.args.is_second leaf image is (g.met.D.Disk.only_now old image left)).2)
    (λ image now. (settled_left g.D.Disk old c.args.is_second leaf image is (c.sync.ensures.crash image now)).2)

pub returns-clause-any_moment : goal.returns-clause-any_moment
returns-clause-any_moment g c leaf is =
    let old = c.args.disk.now in
    one_call g.D.Disk old c.sync.new.self (λ (image : Image). picked_leaf image ≡ leaf) (g.D.Disk.may_leave c.sync.new.self) c.sync.ensures.time
    (λ image left. (settled_left g.D.Disk old c.args.is_second leaf image is (g.met.D.Disk.only_now old image left)).2)
    (λ image now. (settled_left g.D.Disk old c.args.is_second leaf image is (c.sync.ensures.crash image now)).2)

pub returns-clause-kept : goal.returns-clause-kept
returns-clause-kept g c leaf other is reads = (
  settled_within g.D.Disk c.args.disk.now c.sync.new.self c.args.is_second leaf c.sync.ensures.seen c.sync.ensures.crash is,
  λ b told. (reads b (sym c.sync.ensures.seen ∙ told), λ image left. ap image (sym c.leaf_part.ensures) ∙ c.in_ok-sync.ensures.durable b (sym c.sync.ensures.seen ∙ told) image left ∙ ap b c.leaf_part.ensures),
)
