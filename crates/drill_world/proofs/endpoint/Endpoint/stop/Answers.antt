use Rattle.std.proofs.Common.{ap, if◌then◌else◌, subst}
use Rattle.as4_disk.specs.Memory.{picked}
use Rattle.drill_world.specs.Disks.{IsOf}
use Rattle.drill_world.specs.Endpoints.{EndpointState}
use Rattle.drill_world.specs.Transcript.{stands}
use Rattle.drill_world.proofs.EndpointLemmas.{stopped_on}
use Rattle.exchange_model.specs.Apply.{applied}
use Rattle.exchange_model.specs.Table.{Step}
use Rattle.drill_world.proofs.endpoint.Endpoint.stop.Goals as goal

pub returns-in-Ok-clause-stops : goal.returns-in-Ok-clause-stops
returns-in-Ok-clause-stops c =
    let at = c.args.at in
    let outcome = c.in-Ok.ensures.0 in
    let image = picked at.pick c.in-Ok.disk in
    stopped_on c.on.result c.args.self c.args.event outcome (stands at.call at.pick) c.self.inside.said.items c.args.modes image
    c.on.ensures.said c.on.ensures.end
    (subst (λ (e : EndpointState). Step e.modes e.speaker.end c.args.event outcome) c.self.view_is c.in-Ok.ensures.1)
    (subst (λ (e : EndpointState). IsOf (if stands at.call at.pick then applied outcome.effects e.speaker.end else e.speaker.end) image)
    c.self.view_is (c.in-Ok.ensures.2 at.pick))
    (ap (λ (e : EndpointState). e.speaker.said) c.self.view_is)
