use Rattle.std.proofs.Common.{sym, ◌∙◌}
use Rattle.drill_world.proofs.DiskLemmas.{kept_of, unhalted}
use Rattle.drill_world.proofs.disks.disk_of.Goals as goal

pub returns : goal.returns
returns c =
    kept_of c.an_image_opens_to_one_end.ensures.whole c.leaves_all_that_may_be.ensures.picks c.into_disk.result c.args.office.end
    (c.into_disk.ensures.safe (sym c.halt.ensures ∙ unhalted c.halt.result (sym c.is_some.ensures ∙ c.if-is_some.false)))
