use Rattle.as4_flow.specs.Flow.{flow}
use Rattle.link_exchange.proofs.ExchangeLemmas.{connected}
use Rattle.link_exchange.proofs.exchanging.exchange.Goals as goal

pub returns-in-Ok : goal.returns-in-Ok
returns-in-Ok g c =
    let o = c.in-Ok.ensures in
    let s = c.settle.ensures in
    connected g.L.Link c.args.link.now c.settle.new.self c.args.address.now c.args.request.now c.talk-response.result c.open.new.self
    (flow (g.L.In.Source.left c.in-Ok.source) (g.L.Out.Sink.taken c.in-Ok.sink) (g.L.In.Source.faults c.in-Ok.source) (g.L.Out.Sink.faults c.in-Ok.sink))
    (flow (g.L.In.Source.left c.talk-response.new.source) (g.L.Out.Sink.taken c.talk-response.new.sink) (g.L.In.Source.faults c.talk-response.new.source) (g.L.Out.Sink.faults c.talk-response.new.sink))
    o.opens o.addresses o.cause o.others c.talk-response.ensures s.sent s.reads s.writes s.others
