use Rattle.drill_world.proofs.EndpointLemmas.{sent_if}
use Rattle.drill_world.proofs.endpoint.Endpoint.package.Goals as goal

pub returns-clause-sent : goal.returns-clause-sent
returns-clause-sent c =
    rw (← c.self.view_is, ← c.as_slice.ensures.value)
    (sent_if _ c.get.result c.as_slice.result.now c.args.number c.get.ensures.lookup.0 c.get.ensures.lookup.1)
