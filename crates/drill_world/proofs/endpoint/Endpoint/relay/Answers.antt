use Rattle.std.proofs.Common.{sym, ◌∙◌}
use Rattle.std.proofs.lemmas.Result.{IfOk-weaker}
use Rattle.drill_world.proofs.RelayLemmas.{relays_at}
use Rattle.drill_world.proofs.endpoint.Endpoint.relay.Goals as goal

pub returns-clause-relays : goal.returns-clause-relays
returns-clause-relays c =
    rw (← c.self.view_is)
    (IfOk-weaker c.reply_line-text.result _ _
    (λ text says. relays_at c.self.inside.office c.relay-ended.new.office c.self.inside.pass c.relay-ended.new.pass c.self.inside.said.items c.args.end
    c.args.mode.now c.args.stamp c.args.nonce c.relay-ended.result c.in-Some.reply text c.relay-ended.ensures.relays
    (sym c.reply_of.ensures ∙ c.in-Some.is) says)
    c.reply_line-text.ensures)
