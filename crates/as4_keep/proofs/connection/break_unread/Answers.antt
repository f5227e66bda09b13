use Rattle.std.proofs.Common.{ℕ, List, subst}
use Rattle.as4_flow.specs.Flow.{between, flow}
use Rattle.sessions.specs.Sessions.{Writes, text_unread}
use Rattle.sessions.specs.declared.ended.Ended.{Ended}
use Rattle.as4_keep.proofs.connection.break_unread.Goals as goal

pub returns-clause-breaks : goal.returns-clause-breaks
returns-clause-breaks g c left rest reads later =
    let streams = between (flow left (g.K.Sink.taken c.args.sink.now) reads (g.K.Sink.faults c.args.sink.now))
    (flow rest (g.K.Sink.taken c.write_out.new.sink) later (g.K.Sink.faults c.write_out.new.sink)) in
    subst (λ (e : Ended). Writes e (text_unread c.args.refusal) c.write_out.result streams) c.unread-ended.ensures.ended
    (subst (λ (b : List ℕ). Writes c.unread-ended.result.0 b c.write_out.result streams) c.unread-ended.ensures.written
    (c.write_out.ensures.writes left rest reads later))
