use Rattle.std.proofs.Common.{ap, ◌∙◌}
use Rattle.channels.specs.Queues.{Queues}
use Rattle.channels.proofs.ViewLemmas.{same_waits}
use Rattle.channels.proofs.channels.Channels.reserve.Goals as goal

pub returns-in_err-heap-clause-waiting : goal.returns-in_err-heap-clause-waiting
returns-in_err-heap-clause-waiting c =
    same_waits c.self.inside.names c.heap_for.new.names c.self.inside.heaps c.heap_for.new.heaps c.self.invariant c.heap_for.ensures.names c.heap_for.ensures.heaps.same
    ∙ ap (λ (q : Queues). q.waiting) c.self.view_is

pub returns-in_err-reserve-clause-waiting : goal.returns-in_err-reserve-clause-waiting
returns-in_err-reserve-clause-waiting c =
    same_waits c.self.inside.names c.heap_for.new.names c.self.inside.heaps c.reserve.new.self c.self.invariant c.heap_for.ensures.names
    (λ n. c.reserve.ensures.same n ∙ c.heap_for.ensures.heaps.same n)
    ∙ ap (λ (q : Queues). q.waiting) c.self.view_is

pub returns-clause-waiting : goal.returns-clause-waiting
returns-clause-waiting c =
    same_waits c.self.inside.names c.heap_for.new.names c.self.inside.heaps c.reserve.new.self c.self.invariant c.heap_for.ensures.names
    (λ n. c.reserve.ensures.same n ∙ c.heap_for.ensures.heaps.same n)
    ∙ ap (λ (q : Queues). q.waiting) c.self.view_is
