use Rattle.std.proofs.Common.{◌≡◌, ℕ, List, ap, ◌∙◌, refl, subst}
use Rattle.as4_flow.specs.Flow.{TakesFront, appended}
use Rattle.drill_world.specs.Transcript.{end_lines}
use Rattle.drill.proofs.GeneratedLemmas.{generated_once}
use Rattle.drill.proofs.generated.write_ends.Goals as goal

pub returns-in-Ok-send_all-clause-ends : goal.returns-in-Ok-send_all-clause-ends
returns-in-Ok-send_all-clause-ends g c seed count is =
    let text : c.bytes.result.now ≡ end_lines c.args.state.now.world = cc (c.in-Ok.ensures, c.bytes.ensures) in (
      (
        c.args.state.now,
        is,
        generated_once c.a_drill_delivers_once.ensures seed count c.args.state.now is,
        c.in-Ok-send_all.ensures.ok ∙ ap (appended (g.K.Sink.taken c.args.sink.now)) text,
      ),
      (refl, c.in-Ok-send_all.ensures.quiet),
    )

pub returns-in-Ok-clause-ends : goal.returns-in-Ok-clause-ends
returns-in-Ok-clause-ends g c seed count is =
    let text : c.bytes.result.now ≡ end_lines c.args.state.now.world = cc (c.in-Ok.ensures, c.bytes.ensures) in (
      (
        c.args.state.now,
        is,
        generated_once c.a_drill_delivers_once.ensures seed count c.args.state.now is,
        subst (λ (l : List ℕ). TakesFront l (g.K.Sink.taken c.args.sink.now) (g.K.Sink.taken c.send_all.new.sink)) text c.in-Err-send_all.ensures.front,
      ),
      (refl, c.in-Err-send_all.ensures.err),
    )
