use Rattle.std.proofs.Common.{◌≡◌, Some, ◌∙◌}
use Rattle.std.proofs.lemmas.Option.{MatchOption-at_some, MatchOption-at_none}
use Rattle.as4_disk.proofs.RunLemmas.{first_then}
use Rattle.journal.specs.Store.{picked_leaf, KeepsLeaf}
use Rattle.journal.proofs.starting.start.Goals as goal

pub returns-in-Err-clause-any_moment : goal.returns-in-Err-clause-any_moment
returns-in-Err-clause-any_moment g c b told =
    let told_mid : g.D.Disk.seen c.settle.new.disk ≡ Some b = c.settle.ensures.quiet.same ∙ told in
    first_then g.D.Disk c.args.disk.now c.settle.new.disk c.known.new.disk (g.D.Disk.may_leave c.args.disk.now) (KeepsLeaf b) c.settle.ensures.quiet.run
    (c.known.ensures.any_moment (picked_leaf b) b told_mid (c.in_ok-is_second.ensures.settled b told))

pub returns-in-Ok-Some-clause-read : goal.returns-in-Ok-Some-clause-read
returns-in-Ok-Some-clause-read g c b told =
    let told_mid : g.D.Disk.seen c.settle.new.disk ≡ Some b = c.settle.ensures.quiet.same ∙ told in
    MatchOption-at_some _ _ c.in-Ok-Some.version c.in-Ok-Some.field-0-is c.in-Ok-Some.ensures.read (picked_leaf b) b told_mid (c.in_ok-is_second.ensures.settled b told)

pub returns-in-Ok-Some-clause-any_moment : goal.returns-in-Ok-Some-clause-any_moment
returns-in-Ok-Some-clause-any_moment g c b told =
    let told_mid : g.D.Disk.seen c.settle.new.disk ≡ Some b = c.settle.ensures.quiet.same ∙ told in
    first_then g.D.Disk c.args.disk.now c.settle.new.disk c.known.new.disk (g.D.Disk.may_leave c.args.disk.now) (KeepsLeaf b) c.settle.ensures.quiet.run
    (c.known.ensures.any_moment (picked_leaf b) b told_mid (c.in_ok-is_second.ensures.settled b told))

pub returns-in-Ok-None-clause-none : goal.returns-in-Ok-None-clause-none
returns-in-Ok-None-clause-none g c b told = MatchOption-at_none _ _ c.in-Ok-None.field-0-is c.in-Ok-None.ensures.none (picked_leaf b) (c.in_ok-is_second.ensures.settled b told)

pub returns-in-Ok-None-clause-any_moment : goal.returns-in-Ok-None-clause-any_moment
returns-in-Ok-None-clause-any_moment g c b told =
    let told_mid : g.D.Disk.seen c.settle.new.disk ≡ Some b = c.settle.ensures.quiet.same ∙ told in
    first_then g.D.Disk c.args.disk.now c.settle.new.disk c.known.new.disk (g.D.Disk.may_leave c.args.disk.now) (KeepsLeaf b) c.settle.ensures.quiet.run
    (c.known.ensures.any_moment (picked_leaf b) b told_mid (c.in_ok-is_second.ensures.settled b told))
