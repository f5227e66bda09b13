use Rattle.std.proofs.Common.{ap, refl, ◌∙◌}
use Rattle.due_heap.specs.Heaps.{standing_at}
use Rattle.due_heap.proofs.HeapsLemmas.{added_heap, room_added, same_standing}
use Rattle.due_heap.proofs.heaps.Heaps.add.Goals as goal

pub invariant_of-self-2 : goal.invariant_of-self-2
invariant_of-self-2 c = (
  added_heap c.new.result c.self.inside.heaps.items c.push.new.self.items c.self.inside.slots.items c.self.invariant.0 c.in_ok-push.ensures.items c.new.ensures.items,
  room_added c.new.result c.self.inside.heaps.items c.push.new.self.items c.self.inside.slots.items c.self.inside.room c.in_ok-push.ensures.items c.self.invariant.1,
)

pub returns-clause-same : goal.returns-clause-same
returns-clause-same c =
    λ n. same_standing c.self.inside.heaps.items c.push.new.self.items c.self.inside.slots.items c.self.inside.slots.items c.self.inside.room c.self.inside.room (λ m. refl) n ∙ ap (standing_at n) c.self.view_is
