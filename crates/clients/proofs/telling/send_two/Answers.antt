use Rattle.clients.proofs.TellingLemmas.{second_prefix}
use Rattle.clients.proofs.telling.send_two.Goals as goal

pub returns-in-Ok-clause-front : goal.returns-in-Ok-clause-front
returns-in-Ok-clause-front g c =
    second_prefix c.args.first.now c.args.second.now (g.K.Sink.taken c.args.output.now) (g.K.Sink.taken c.send_all.new.sink)
    (g.K.Sink.taken c.send_all-in-Ok.new.sink) c.in-Ok.ensures.ok c.send_all-in-Ok.ensures.front
