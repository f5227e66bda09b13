use Rattle.std.proofs.Common.{ap, ◌∙◌}
use Rattle.std.proofs.lemmas.Option.{none-some}
use Rattle.channels.specs.Queues.{Queues, head_in}
use Rattle.channels.proofs.KeptHeadLemmas.{head_of_heap, head_of_none}
use Rattle.channels.proofs.channels.Channels.head.Goals as goal

pub returns-in_err-heap : goal.returns-in_err-heap
returns-in_err-heap c =
    c.from_residual.ensures
    ∙ head_of_none c.self.inside.names c.self.inside.heaps c.args.queue.now c.args.moment c.self.invariant (λ heap is there. none-some heap (c.in_err-heap.ensures.only heap is there))
    ∙ ap (λ (q : Queues). head_in c.args.queue.now c.args.moment q.waiting) c.self.view_is

pub returns : goal.returns
returns c =
    c.if_due.ensures
    ∙ head_of_heap c.self.inside.names c.self.inside.heaps c.args.queue.now c.in_ok-heap.heap c.args.moment c.least.result c.self.invariant c.in_ok-heap.ensures.found.0 c.least.ensures
    ∙ ap (λ (q : Queues). head_in c.args.queue.now c.args.moment q.waiting) c.self.view_is
