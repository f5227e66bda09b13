use Rattle.std.proofs.Common.{arith}
use Rattle.as4_doors.proofs.LocalLemmas.{some_load}
use Rattle.as4_doors.specs.Targets.{any_media}
use Rattle.as4_doors.proofs.local.untyped_loads.Goals as goal

pub returns : goal.returns
unfolding any_media
returns c = some_load c.args.body.now c.one_load.result (grind (arith, c.if-is_empty.ensures)) c.one_load.ensures
