use Rattle.hub_world.proofs.TrioLemmas.{put_stops}
use Rattle.hub_world.proofs.trio.Trio.stop.Goals as goal

pub returns-clause-stops : goal.returns-clause-stops
returns-clause-stops c =
    put_stops c.args.end c.args.event c.args.at.call c.args.at.pick c.in-Ok.spare.speaker c.put.result c.in_ok-stopped.stopped c.reopened_line.result
    c.args.self.now c.put.new.self c.put-2.new.self c.put.ensures.was c.put.ensures.is c.put-2.ensures.is c.in_ok-stopped.ensures.stops c.reopened_line.ensures
