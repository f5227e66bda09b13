use Rattle.std.proofs.Common.{◌<◌, length, ap, refl}
use Rattle.msh_core.specs.Machine.{Machine}
use Rattle.msh_core.proofs.MeasuredLemmas.{consistent_moved, consistent_same}
use Rattle.msh_core.proofs.machine.Core.moved.Goals as goal

pub invariant_of-self : goal.invariant_of-self
invariant_of-self c =
    let within : c.args.n < length c.self.inside.tables.places = rw (ap (λ (m : Machine). m.places) c.self.view_is) c.requires in
    consistent_same _ _ _ _ c.moved.ensures.end refl
    (consistent_moved c.self.inside.tables.end c.self.inside.tables.places c.moved.new.self.places c.args.n c.args.gate within
    c.moved.ensures.places c.self.invariant)
