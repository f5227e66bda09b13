use Rattle.std.proofs.Common.{Some, None, ◌∙◌}
use Rattle.due_heap.proofs.HeapsLemmas.{told}
use Rattle.due_heap.proofs.heaps.Heaps.place.Goals as goal

pub returns-in_err-slot : goal.returns-in_err-slot
returns-in_err-slot c =
    c.from_residual.ensures
    ∙ told c.args.self.now c.self.inside.heaps.items c.self.inside.slots.items c.as_slice.result.now c.self.inside.room c.args.number None c.self.view_is c.as_slice.ensures.value c.in_err-slot.ensures

pub returns : goal.returns
returns c =
    told c.args.self.now c.self.inside.heaps.items c.self.inside.slots.items c.as_slice.result.now c.self.inside.room c.args.number (Some c.in_ok-slot.slot) c.self.view_is c.as_slice.ensures.value c.in_ok-slot.ensures
