use Rattle.hub_world.proofs.TrioLemmas.{relayed}
use Rattle.hub_world.proofs.trio.Trio.relay.Goals as goal

pub returns-clause-relays : goal.returns-clause-relays
returns-clause-relays c =
    relayed c.relay.result c.args.mode.now c.args.stamp c.args.nonce c.self.inside.first c.self.inside.hub c.relay.new.self c.self.inside.last
    c.self.inside.links.items c.args.self.now c.self.view_is c.self.invariant.0 c.relay.ensures.relays
