use Rattle.due_heap.proofs.HeapsLemmas.{standing_known}
use Rattle.due_heap.proofs.heaps.Heaps.count.Goals as goal

pub returns-clause-known : goal.returns-clause-known
returns-clause-known c =
    standing_known c.args.self.now c.self.inside.heaps.items c.self.inside.slots.items c.self.inside.room c.self.view_is c.self.invariant.0
