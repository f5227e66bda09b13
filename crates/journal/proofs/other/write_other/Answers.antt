use Rattle.std.proofs.Common.{◌≡◌, ℕ, List, length, ap, ◌∙◌}
use Rattle.as4_disk.specs.Bytes.{IsOverwritten, overwritten, Torn}
use Rattle.as4_disk.specs.Image.{Image}
use Rattle.as4_disk.proofs.ImageLemmas.{torn_nothing}
use Rattle.as4_disk.proofs.RunLemmas.{one_call}
use Rattle.journal.specs.Store.{picked_leaf}
use Rattle.journal.proofs.OtherLemmas.{other_kept, other_stepped, other_torn}
use Rattle.journal.proofs.other.write_other.Goals as goal

pub returns-in_err-write_at-clause-any_moment : goal.returns-in_err-write_at-clause-any_moment
returns-in_err-write_at-clause-any_moment g c leaf is =
    let old = c.args.disk.now in
    let n = length c.args.bytes.now in
    one_call g.D.Disk old c.write_at.new.self (λ (image : Image). picked_leaf image ≡ leaf) (g.D.Disk.may_leave c.write_at.new.self) c.write_at.ensures.time
    (λ image left. other_torn g.D.Disk old c.write_at.new.self c.args.is_second c.leaf_part.result c.leaf_part.ensures (IsOverwritten c.args.at c.args.bytes.now) (Torn c.args.at n) leaf image is
    (image, g.met.D.Disk.only_now old image left, torn_nothing c.leaf_part.result c.args.at n image))
    (λ image now. other_torn g.D.Disk old c.write_at.new.self c.args.is_second c.leaf_part.result c.leaf_part.ensures (IsOverwritten c.args.at c.args.bytes.now) (Torn c.args.at n) leaf image is (c.write_at.ensures.crash image now))

pub returns-clause-any_moment : goal.returns-clause-any_moment
returns-clause-any_moment g c leaf is =
    let old = c.args.disk.now in
    let n = length c.args.bytes.now in
    one_call g.D.Disk old c.write_at.new.self (λ (image : Image). picked_leaf image ≡ leaf) (g.D.Disk.may_leave c.write_at.new.self) c.write_at.ensures.time
    (λ image left. other_torn g.D.Disk old c.write_at.new.self c.args.is_second c.leaf_part.result c.leaf_part.ensures (IsOverwritten c.args.at c.args.bytes.now) (Torn c.args.at n) leaf image is
    (image, g.met.D.Disk.only_now old image left, torn_nothing c.leaf_part.result c.args.at n image))
    (λ image now. other_torn g.D.Disk old c.write_at.new.self c.args.is_second c.leaf_part.result c.leaf_part.ensures (IsOverwritten c.args.at c.args.bytes.now) (Torn c.args.at n) leaf image is (c.write_at.ensures.crash image now))

pub returns-clause-kept : goal.returns-clause-kept
returns-clause-kept g c leaf other is reads =
    let old = c.args.disk.now in
    let n = length c.args.bytes.now in (
      other_kept g.D.Disk old c.write_at.new.self c.args.is_second c.leaf_part.result c.leaf_part.ensures (IsOverwritten c.args.at c.args.bytes.now) (Torn c.args.at n) leaf c.in_ok-write_at.ensures.written c.write_at.ensures.tells c.write_at.ensures.crash is,
      λ b told. (let went = other_stepped g.D.Disk old c.write_at.new.self c.args.is_second c.leaf_part.result c.leaf_part.ensures (IsOverwritten c.args.at c.args.bytes.now) (Torn c.args.at n) leaf b c.in_ok-write_at.ensures.written is told in
          went.2 ∙ ap (λ (l : List ℕ). overwritten c.args.at c.args.bytes.now l) (reads went.0 went.1)),
    )
