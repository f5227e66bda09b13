use Rattle.drill_world.proofs.StateLemmas.{met_stops}
use Rattle.drill_world.proofs.state.DrillState.stop.Goals as goal

pub returns : goal.returns
returns c =
    met_stops c.args.at.call c.args.at.pick c.args.end c.args.event c.put.result c.in_ok-stopped.stopped c.in-Ok.spare.speaker c.reopened_line.result
    c.args.self.now c.count.new.self c.put.new.self c.put-2.new.self c.count.ensures c.put.ensures.was c.put.ensures.is c.put-2.ensures.is
    c.requires.begun c.requires.nonce c.requires.heard c.in_ok-stopped.ensures.stops c.reopened_line.ensures
