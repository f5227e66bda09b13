use Rattle.std.proofs.Common.{◌≡◌, ℕ, List, ap, ◌∙◌, subst}
use Rattle.as4_flow.specs.Flow.{flow, TakesFront, appended}
use Rattle.drill.proofs.EndLemmas.{Laws, ends_read, ends_unfinished, ends_without_memory}
use Rattle.drill.proofs.script.finish.Goals as goal

pub returns-in-Ok-send_all-clause-ends : goal.returns-in-Ok-send_all-clause-ends
returns-in-Ok-send_all-clause-ends g c start held count left reads s none =
    let law : Laws g.P.Play = record { none = c.laws.ensures.none; more = c.laws.ensures.more; spelled = c.laws.ensures.spelled; delivers = c.laws.ensures.delivers } in
    let text : c.bytes.result.now ≡ g.P.Play.end_lines c.args.state.now = cc (c.in-Ok.ensures, c.bytes.ensures) in
    ends_read g.row.P.Denot g.P.Play law c.args.state.now held count start (flow left (g.K.Sink.taken c.args.sink.now) reads (g.K.Sink.faults c.args.sink.now))
    (g.K.Sink.taken c.send_all.new.sink) (g.K.Sink.faults c.send_all.new.sink) s none
    (c.in-Ok-send_all.ensures.ok ∙ ap (appended (g.K.Sink.taken c.args.sink.now)) text) c.in-Ok-send_all.ensures.quiet

pub returns-in-Ok-clause-ends : goal.returns-in-Ok-clause-ends
returns-in-Ok-clause-ends g c start held count left reads s none =
    let law : Laws g.P.Play = record { none = c.laws.ensures.none; more = c.laws.ensures.more; spelled = c.laws.ensures.spelled; delivers = c.laws.ensures.delivers } in
    let text : c.bytes.result.now ≡ g.P.Play.end_lines c.args.state.now = cc (c.in-Ok.ensures, c.bytes.ensures) in
    let front : TakesFront (g.P.Play.end_lines c.args.state.now) (g.K.Sink.taken c.args.sink.now) (g.K.Sink.taken c.send_all.new.sink) =
    subst (λ (l : List ℕ). TakesFront l (g.K.Sink.taken c.args.sink.now) (g.K.Sink.taken c.send_all.new.sink)) text c.in-Err-send_all.ensures.front in
    ends_unfinished g.row.P.Denot g.P.Play law c.args.state.now held count start (flow left (g.K.Sink.taken c.args.sink.now) reads (g.K.Sink.faults c.args.sink.now))
    (g.K.Sink.taken c.send_all.new.sink) (g.K.Sink.faults c.send_all.new.sink) s none front c.in-Err-send_all.ensures.err

pub returns-clause-ends : goal.returns-clause-ends
returns-clause-ends g c start held count left reads s none =
    let law : Laws g.P.Play = record { none = c.laws.ensures.none; more = c.laws.ensures.more; spelled = c.laws.ensures.spelled; delivers = c.laws.ensures.delivers } in
    ends_without_memory g.row.P.Denot g.P.Play law c.args.state.now held count start (flow left (g.K.Sink.taken c.args.sink.now) reads (g.K.Sink.faults c.args.sink.now)) s
