use Rattle.as4_flow.specs.Flow.{flow}
use Rattle.drill.proofs.EndLemmas.{Laws, so_far_none}
use Rattle.drill.proofs.script.run.Goals as goal

pub returns-clause-ends : goal.returns-clause-ends
returns-clause-ends g c =
    let law : Laws g.P.Play = record { none = c.laws.ensures.none; more = c.laws.ensures.more; spelled = c.laws.ensures.spelled; delivers = c.laws.ensures.delivers } in
    let start = (flow (g.S.Source.left c.args.source.now) (g.K.Sink.taken c.args.sink.now) (g.S.Source.faults c.args.source.now) (g.K.Sink.faults c.args.sink.now)) in
    c.play_lines-end.ensures.ends start (so_far_none g.row.P.Denot g.P.Play law c.args.state.now c.new-reader.result start c.requires c.new-reader.ensures)
