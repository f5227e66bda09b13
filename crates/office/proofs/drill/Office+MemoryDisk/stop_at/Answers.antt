use Rattle.std.proofs.Common.{◌∙◌, sym, ap, subst}
use Rattle.as4_disk.specs.Memory.{DiskState}
use Rattle.as4_disk.specs.MemoryMeaning.{memory_meaning}
use Rattle.journal.specs.declared.journal.Journal.{Journal}
use Rattle.office.specs.State.{IsInOrder}
use Rattle.office.proofs.DrillLemmas.{order_to_stop}
use Rattle.office.proofs.drill.Office+MemoryDisk.stop_at.Goals as goal

pub invariant_of-self : goal.invariant_of-self
invariant_of-self c =
    let o = c.self.inside in
    let P : Journal DiskState → Type 0 = λ j. IsInOrder memory_meaning j o.core.end o.core.places o.core.modes o.halt o.keeper.list in
    (subst P (sym (c.stop_at.ensures.same ∙ ap (λ (disk : DiskState). record o.journal { disk = disk }) c.stop_at.ensures.stops)) (order_to_stop o.journal c.args.call o.core.end o.core.places o.core.modes o.halt o.keeper.list c.self.invariant.0), c.self.invariant.1)
