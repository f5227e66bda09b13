use Rattle.std.proofs.Common.{ap, subst}
use Rattle.as4_disk.specs.Memory.{picked}
use Rattle.as4_disk.specs.declared.change.Pick.TheVariants.{New}
use Rattle.drill_world.specs.Disks.{IsOf}
use Rattle.drill_world.specs.Endpoints.{EndpointState}
use Rattle.drill_world.proofs.EndpointLemmas.{opened_on}
use Rattle.drill_world.proofs.endpoint.Endpoint.crash.Goals as goal

pub returns-in-Ok : goal.returns-in-Ok
returns-in-Ok c =
    opened_on c.on.result c.args.self c.self.inside.said.items c.args.modes (picked New c.in-Ok.disk) c.on.ensures.said c.on.ensures.end
    (subst (λ (e : EndpointState). IsOf e.speaker.end (picked New c.in-Ok.disk)) c.self.view_is (c.in-Ok.ensures New))
    (ap (λ (e : EndpointState). e.speaker.said) c.self.view_is) c.requires
