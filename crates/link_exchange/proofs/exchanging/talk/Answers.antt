use Rattle.std.proofs.Common.{◌≡◌, Err, ap}
use Rattle.as4_http.specs.declared.refusal.HttpRefusal.TheVariants as http
use Rattle.link_exchange.proofs.ExchangeLemmas.{why_unread}
use Rattle.link_exchange.proofs.exchanging.talk.Goals as goal

pub returns-in-Err-read_response : goal.returns-in-Err-read_response
returns-in-Err-read_response g c =
    let refusal = c.in-Err-read_response.refusal in
    let e = c.in-Err-read_response.ensures in (
      (c.in-Ok.ensures.ok, c.in-Ok.ensures.quiet),
      record {
        why = why_unread refusal (g.S.Source.left c.args.source.now) (g.S.Source.left c.read_response.new.source)
            (g.K.Sink.taken c.args.sink.now) (g.K.Sink.taken c.send_all.new.sink)
            (g.S.Source.faults c.args.source.now) (g.S.Source.faults c.read_response.new.source)
            (g.K.Sink.faults c.args.sink.now) (g.K.Sink.faults c.send_all.new.sink) c.new.result c.new.ensures e.only
            (λ is. e.begun (ap Err is)) (λ is. e.cut (ap Err is)) (λ is. e.bad (ap Err is)) (λ is. e.too_long (ap Err is))
            (λ is. e.passed (ap Err is)) (λ is. e.fault (ap Err is));
        quiet = λ other. e.quiet (λ is. other (let same : refusal ≡ http.ReadFault = cc in same));
      },
    )
