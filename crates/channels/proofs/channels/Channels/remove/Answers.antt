use Rattle.std.proofs.Common.{ap, ◌∙◌}
use Rattle.channels.specs.Queues.{Queues, without}
use Rattle.channels.proofs.ViewLemmas.{some_stands, taken_out}
use Rattle.channels.proofs.channels.Channels.remove.Goals as goal

pub remove-requires : goal.remove-requires
remove-requires c =
    record { there = some_stands c.self.inside.names c.self.inside.heaps c.args.number _ (rw (← c.self.view_is) at c.requires.there) }

pub returns-clause-waiting : goal.returns-clause-waiting
returns-clause-waiting c =
    taken_out c.self.inside.names c.args.number c.self.inside.heaps c.remove.new.self c.remove.ensures.gone
    ∙ ap (λ (q : Queues). without c.args.number q.waiting) c.self.view_is
