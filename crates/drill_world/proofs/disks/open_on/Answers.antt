use Rattle.std.proofs.Common.{refl, ◌∙◌}
use Rattle.as4_disk.specs.Memory.{reads}
use Rattle.drill_world.proofs.disks.open_on.Goals as goal

pub returns-in-Ok-clause-end : goal.returns-in-Ok-clause-end
returns-in-Ok-clause-end c end is =
    let read = c.in-Ok.ensures.end (reads c.args.disk) refl in
    read.3 is.current ∙ c.an_image_opens_to_one_end.ensures.read (reads c.args.disk) read.0 end read.1 is.reads
