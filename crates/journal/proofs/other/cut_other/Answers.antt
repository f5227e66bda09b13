use Rattle.std.proofs.Common.{◌≡◌, refl}
use Rattle.as4_disk.specs.Bytes.{IsCut, TornCut}
use Rattle.as4_disk.specs.Image.{Image}
use Rattle.as4_disk.specs.ByteLaws.{cut_same}
use Rattle.as4_disk.proofs.RunLemmas.{one_call}
use Rattle.journal.specs.Store.{picked_leaf}
use Rattle.journal.proofs.OtherLemmas.{other_kept, other_stepped, other_torn}
use Rattle.journal.proofs.other.cut_other.Goals as goal

pub returns-in_err-cut-clause-any_moment : goal.returns-in_err-cut-clause-any_moment
returns-in_err-cut-clause-any_moment g c leaf is =
    let old = c.args.disk.now in
    one_call g.D.Disk old c.cut.new.self (λ (image : Image). picked_leaf image ≡ leaf) (g.D.Disk.may_leave c.cut.new.self) c.cut.ensures.time
    (λ image left. other_torn g.D.Disk old c.cut.new.self c.args.is_second c.leaf_part.result c.leaf_part.ensures (IsCut 0) (TornCut 0) leaf image is
    (image, g.met.D.Disk.only_now old image left, record { there = cut_same 0 (image c.leaf_part.result); elsewhere = λ q other. refl }))
    (λ image now. other_torn g.D.Disk old c.cut.new.self c.args.is_second c.leaf_part.result c.leaf_part.ensures (IsCut 0) (TornCut 0) leaf image is (c.cut.ensures.crash image now))

pub returns-clause-any_moment : goal.returns-clause-any_moment
returns-clause-any_moment g c leaf is =
    let old = c.args.disk.now in
    one_call g.D.Disk old c.cut.new.self (λ (image : Image). picked_leaf image ≡ leaf) (g.D.Disk.may_leave c.cut.new.self) c.cut.ensures.time
    (λ image left. other_torn g.D.Disk old c.cut.new.self c.args.is_second c.leaf_part.result c.leaf_part.ensures (IsCut 0) (TornCut 0) leaf image is
    (image, g.met.D.Disk.only_now old image left, record { there = cut_same 0 (image c.leaf_part.result); elsewhere = λ q other. refl }))
    (λ image now. other_torn g.D.Disk old c.cut.new.self c.args.is_second c.leaf_part.result c.leaf_part.ensures (IsCut 0) (TornCut 0) leaf image is (c.cut.ensures.crash image now))

pub returns-clause-kept : goal.returns-clause-kept
returns-clause-kept g c leaf is =
    let old = c.args.disk.now in (
      other_kept g.D.Disk old c.cut.new.self c.args.is_second c.leaf_part.result c.leaf_part.ensures (IsCut 0) (TornCut 0) leaf c.in_ok-cut.ensures.written c.cut.ensures.tells c.cut.ensures.crash is,
      λ b told. (other_stepped g.D.Disk old c.cut.new.self c.args.is_second c.leaf_part.result c.leaf_part.ensures (IsCut 0) (TornCut 0) leaf b c.in_ok-cut.ensures.written is told).2,
    )
