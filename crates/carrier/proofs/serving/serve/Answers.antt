use Rattle.std.proofs.Common.{ap, refl, sym, ◌∙◌, Some}
use Rattle.as4_flow.specs.Flow.{between, flow}
use Rattle.as4_flow.specs.InMemory.{SinkState, SourceState}
use Rattle.carrier.proofs.ServedLemmas.{moment_drawn, nonce_drawn, served}
use Rattle.carrier.proofs.serving.serve.Goals as goal

pub returns-clause-serves : goal.returns-clause-serves
returns-clause-serves g c =
    let old = c.of-source.result in
    let sink = c.of-sink.result in
    let new = c.session_on-ended.new in
    let request = ap (λ (s : SourceState). s.bytes) c.of-source.ensures ∙ c.into_vec.ensures in
    served (between (flow (Some old.bytes) (Some sink.bytes) old.faults sink.faults) (flow (Some new.source.bytes) (Some new.sink.bytes) new.source.faults new.sink.faults))
    c.args.request new.source.bytes c.args.stamp c.args.nonce c.session_on-ended.result c.of-2.result
    (ap Some request) refl (ap (λ (s : SinkState). Some s.bytes) c.of-sink.ensures) (ap Some (sym (c.of-2.ensures ∙ c.into_bytes.ensures)))
    (λ m n drawn. (
      moment_drawn c.in-Ok.clock c.args.stamp m c.in-Ok.ensures c.requires.dated drawn.from_clock.first,
      nonce_drawn c.of-nonces.result c.args.nonce n c.of-nonces.ensures c.ranges.nonce.fits drawn.from_nonces.first,
    ))
    c.session_on-ended.ensures.ends
