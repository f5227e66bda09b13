use Rattle.std.proofs.Common.{ℕ, ◌+◌, ◌++◌, Option, is_some, length, take, drop, sym, ap, subst, ◌∙◌, arith, length-append, length-take}
use Rattle.as4_disk.specs.Bytes.{IsOverwritten, Torn}
use Rattle.as4_disk.specs.Image.{Image, On, TornFrom}
use Rattle.as4_disk.specs.Runs.{Goes, Follows}
use Rattle.as4_disk.proofs.RunLemmas.{weaken}
use Rattle.journal.specs.Store.{picked_leaf}
use Rattle.journal.proofs.StoreLemmas.{settled_written, torn_picked, tells_some}
use Rattle.journal.proofs.picked_leaf.write_picked.Goals as goal

pub returns-in_err-write_durably-clause-any_moment : goal.returns-in_err-write_durably-clause-any_moment
returns-in_err-write_durably-clause-any_moment g c leaf is =
    let old = c.args.disk.now in
    weaken g.D.Disk old c.write_durably.new.disk
    (TornFrom c.leaf_part.result c.args.at (length c.args.bytes.now) (g.D.Disk.may_leave old))
    (λ (image : Image). Torn c.args.at (length c.args.bytes.now) leaf (picked_leaf image))
    (λ image from. torn_picked g.D.Disk old c.leaf_part.result c.args.is_second c.args.at (length c.args.bytes.now) leaf image c.leaf_part.ensures is from)
    c.write_durably.ensures.any_moment

pub returns-clause-settled : goal.returns-clause-settled
returns-clause-settled g c front rest place is =
    let old = c.args.disk.now in
    let new = c.write_durably.new.disk in
    let bytes = c.args.bytes.now in
    let P : ℕ → Type 0 = λ n. Goes (On c.leaf_part.result (IsOverwritten n bytes)) (g.D.Disk.seen old) (g.D.Disk.seen new) in
    let Q : ℕ → Type 0 = λ n. Follows (On c.leaf_part.result (Torn n (length bytes))) (g.D.Disk.may_leave old) (g.D.Disk.may_leave new) in
    settled_written g.D.Disk old new c.leaf_part.result c.args.is_second front rest bytes c.leaf_part.ensures
    (subst P place c.in_ok-write_durably.ensures.written) c.write_durably.ensures.counts.tells (subst Q place c.write_durably.ensures.crash) c.in_ok-write_durably.ensures.durable is

pub returns-clause-any_moment : goal.returns-clause-any_moment
returns-clause-any_moment g c leaf is =
    let old = c.args.disk.now in
    weaken g.D.Disk old c.write_durably.new.disk
    (TornFrom c.leaf_part.result c.args.at (length c.args.bytes.now) (g.D.Disk.may_leave old))
    (λ (image : Image). Torn c.args.at (length c.args.bytes.now) leaf (picked_leaf image))
    (λ image from. torn_picked g.D.Disk old c.leaf_part.result c.args.is_second c.args.at (length c.args.bytes.now) leaf image c.leaf_part.ensures is from)
    c.write_durably.ensures.any_moment

pub returns-clause-longer : goal.returns-clause-longer
returns-clause-longer g c b told =
    let old = c.args.disk.now in
    let was = tells_some (g.D.Disk.seen old) (sym c.write_durably.ensures.counts.tells ∙ ap (λ (o : Option Image). is_some o) told) in
    let step = c.in_ok-write_durably.ensures.written was.0 b was.1 told in
    let fits = c.requires was.0 was.1 in
    let before = was.0 c.leaf_part.result in
    omega (arith, ap length step.there, ap (λ p. length (b p)) c.leaf_part.ensures, ap (λ p. length (was.0 p)) c.leaf_part.ensures, fits, length-append (take c.args.at before ++ c.args.bytes.now) (drop (c.args.at + length c.args.bytes.now) before), length-append (take c.args.at before) c.args.bytes.now, length-take c.args.at before)
