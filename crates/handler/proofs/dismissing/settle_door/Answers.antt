use Rattle.std.proofs.Common.{[], Contains}
use Rattle.std.proofs.lemmas.List.Elements.{All-head}
use Rattle.handler.proofs.dismissing.settle_door.Goals as goal

pub settle_door-requires : goal.settle_door-requires
settle_door-requires g c v is = All-head (Contains v) c.args.address.now [] (c.requires.names v is)
