use Rattle.std.proofs.Common.{◌≡◌, Some, [], ap, ◌∙◌, refl, true, false}
use Rattle.as4_flow.specs.Flow.{Streams, between, flow}
use Rattle.as4_flow.specs.InMemory.{SinkState, SourceState}
use Rattle.conformance.specs.Plays.{IsTranscript}
use Rattle.conformance.proofs.PlayLemmas.{drill_line, drill_read, drill_too_many, one_text}
use Rattle.conformance.proofs.VerdictLemmas.{text_right, text_wrong}
use Rattle.conformance.proofs.play.has_transcript.Goals as goal

pub returns-in-Read-clause-right : goal.returns-in-Read-clause-right
returns-in-Read-clause-right c same =
    let source = c.of-source.result in
    let sink = c.of-sink.result in
    let streams : Streams = between (flow (Some source.bytes) (Some sink.bytes) source.faults sink.faults)
    (flow (Some c.drill.new.source.bytes) (Some c.drill.new.sink.bytes) c.drill.new.source.faults c.drill.new.sink.faults) in
    let left : streams.left ≡ Some c.args.script.now = ap Some (ap (λ (s : SourceState). s.bytes) c.of-source.ensures ∙ c.in_ok-bytes.ensures.items) in
    let taken : streams.taken ≡ Some [] = ap Some (ap (λ (s : SinkState). s.bytes) c.of-sink.ensures) in
    let is : IsTranscript c.args.script.now c.drill.new.sink.bytes = drill_read streams c.args.script.now c.drill.new.sink.bytes left taken refl c.in-Read.ensures.ends in
    let answer : c.has_taken.result ≡ true = cc in
    text_right (IsTranscript c.args.script.now) c.drill.new.sink.bytes c.args.text.now c.has_taken.result is c.has_taken.ensures answer

pub returns-in-Read-clause-wrong : goal.returns-in-Read-clause-wrong
returns-in-Read-clause-wrong c same =
    let source = c.of-source.result in
    let sink = c.of-sink.result in
    let streams : Streams = between (flow (Some source.bytes) (Some sink.bytes) source.faults sink.faults)
    (flow (Some c.drill.new.source.bytes) (Some c.drill.new.sink.bytes) c.drill.new.source.faults c.drill.new.sink.faults) in
    let left : streams.left ≡ Some c.args.script.now = ap Some (ap (λ (s : SourceState). s.bytes) c.of-source.ensures ∙ c.in_ok-bytes.ensures.items) in
    let taken : streams.taken ≡ Some [] = ap Some (ap (λ (s : SinkState). s.bytes) c.of-sink.ensures) in
    let is : IsTranscript c.args.script.now c.drill.new.sink.bytes = drill_read streams c.args.script.now c.drill.new.sink.bytes left taken refl c.in-Read.ensures.ends in
    let answer : c.has_taken.result ≡ false = cc in
    text_wrong (IsTranscript c.args.script.now) c.drill.new.sink.bytes c.args.text.now c.has_taken.result (λ other. one_text c.args.script.now c.drill.new.sink.bytes other is) c.has_taken.ensures answer

pub returns-in-Line-clause-right : goal.returns-in-Line-clause-right
returns-in-Line-clause-right c same =
    let source = c.of-source.result in
    let sink = c.of-sink.result in
    let streams : Streams = between (flow (Some source.bytes) (Some sink.bytes) source.faults sink.faults)
    (flow (Some c.drill.new.source.bytes) (Some c.drill.new.sink.bytes) c.drill.new.source.faults c.drill.new.sink.faults) in
    let left : streams.left ≡ Some c.args.script.now = ap Some (ap (λ (s : SourceState). s.bytes) c.of-source.ensures ∙ c.in_ok-bytes.ensures.items) in
    let taken : streams.taken ≡ Some [] = ap Some (ap (λ (s : SinkState). s.bytes) c.of-sink.ensures) in
    let is : IsTranscript c.args.script.now c.drill.new.sink.bytes = drill_line streams c.args.script.now c.drill.new.sink.bytes c.in-Line.number left taken refl c.in-Line.ensures.ends in
    let answer : c.has_taken-in-Line.result ≡ true = cc in
    text_right (IsTranscript c.args.script.now) c.drill.new.sink.bytes c.args.text.now c.has_taken-in-Line.result is c.has_taken-in-Line.ensures answer

pub returns-in-Line-clause-wrong : goal.returns-in-Line-clause-wrong
returns-in-Line-clause-wrong c same =
    let source = c.of-source.result in
    let sink = c.of-sink.result in
    let streams : Streams = between (flow (Some source.bytes) (Some sink.bytes) source.faults sink.faults)
    (flow (Some c.drill.new.source.bytes) (Some c.drill.new.sink.bytes) c.drill.new.source.faults c.drill.new.sink.faults) in
    let left : streams.left ≡ Some c.args.script.now = ap Some (ap (λ (s : SourceState). s.bytes) c.of-source.ensures ∙ c.in_ok-bytes.ensures.items) in
    let taken : streams.taken ≡ Some [] = ap Some (ap (λ (s : SinkState). s.bytes) c.of-sink.ensures) in
    let is : IsTranscript c.args.script.now c.drill.new.sink.bytes = drill_line streams c.args.script.now c.drill.new.sink.bytes c.in-Line.number left taken refl c.in-Line.ensures.ends in
    let answer : c.has_taken-in-Line.result ≡ false = cc in
    text_wrong (IsTranscript c.args.script.now) c.drill.new.sink.bytes c.args.text.now c.has_taken-in-Line.result (λ other. one_text c.args.script.now c.drill.new.sink.bytes other is) c.has_taken-in-Line.ensures answer

pub returns-in-TooMany-clause-wrong : goal.returns-in-TooMany-clause-wrong
returns-in-TooMany-clause-wrong c same =
    let source = c.of-source.result in
    let sink = c.of-sink.result in
    let streams : Streams = between (flow (Some source.bytes) (Some sink.bytes) source.faults sink.faults)
    (flow (Some c.drill.new.source.bytes) (Some c.drill.new.sink.bytes) c.drill.new.source.faults c.drill.new.sink.faults) in
    let left : streams.left ≡ Some c.args.script.now = ap Some (ap (λ (s : SourceState). s.bytes) c.of-source.ensures ∙ c.in_ok-bytes.ensures.items) in
    drill_too_many streams c.args.script.now c.args.text.now left c.in-TooMany.ensures.ends
