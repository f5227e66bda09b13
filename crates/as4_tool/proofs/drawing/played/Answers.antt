use Rattle.std.proofs.Common.{◌≡◌, Some, ap, ◌∙◌}
use Rattle.as4_flow.specs.Flow.{Streams, between, flow}
use Rattle.as4_flow.specs.InMemory.{SourceState}
use Rattle.as4_tool.proofs.drawing.played.Goals as goal

pub returns : goal.returns
returns c =
    let source = c.of-source.result in
    let sink = c.of-transcript.result in
    let streams : Streams = between (flow (Some source.bytes) (Some sink.bytes) source.faults sink.faults)
    (flow (Some c.drill-end.new.source.bytes) (Some c.drill-end.new.sink.bytes) c.drill-end.new.source.faults c.drill-end.new.sink.faults) in
    let left : streams.left ≡ Some c.args.script.now = ap Some (ap (λ (s : SourceState). s.bytes) c.of-source.ensures ∙ c.in_ok-bytes.ensures.items) in
    (streams, left, c.drill-end.ensures.ends)
