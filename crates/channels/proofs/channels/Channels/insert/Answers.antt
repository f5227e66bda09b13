use Rattle.std.proofs.Common.{ap, ◌∙◌}
use Rattle.channels.specs.Queues.{Queues, inserted}
use Rattle.channels.proofs.QueueLemmas.{queue_within}
use Rattle.channels.proofs.ViewLemmas.{none_stands, put_in, put_kept}
use Rattle.channels.proofs.channels.Channels.insert.Goals as goal

pub insert-requires-clause-new : goal.insert-requires-clause-new
insert-requires-clause-new c =
    none_stands c.self.inside.names c.self.inside.heaps c.args.number c.self.invariant (rw (← c.self.view_is) at c.requires.new)

pub invariant_of-self : goal.invariant_of-self
invariant_of-self c =
    put_kept c.self.inside.names c.in-Some.heap c.args.due c.args.number c.self.inside.heaps c.insert.new.self c.self.invariant
    (queue_within c.self.inside.names c.in-Some.heap c.args.queue.now c.in-Some.ensures.found.0) c.in-Some.ensures.found.1 c.insert.ensures.placed c.insert.ensures.room

pub returns : goal.returns
returns c =
    put_in c.self.inside.names c.args.queue.now c.in-Some.heap c.args.due c.args.number c.self.inside.heaps c.insert.new.self c.in-Some.ensures.found.0 (rw (← c.self.view_is) at c.requires.new) c.insert.ensures.placed
    ∙ ap (λ (q : Queues). inserted (record { queue = c.args.queue.now; due = c.args.due; number = c.args.number }) q.waiting) c.self.view_is
