use Rattle.std.proofs.Common.{◌≡◌, ap, ◌∙◌, codes}
use Rattle.std.proofs.lemmas.Result.{IfOk-weaker}
use Rattle.drill_world.specs.Endpoints.{EndpointState}
use Rattle.drill_world.specs.Events.{site_of}
use Rattle.drill_texts.specs.Texts.{said_line}
use Rattle.drill_world.proofs.StateLemmas.{put_back}
use Rattle.drill_world.proofs.state.DrillState.crash.Goals as goal

pub returns : goal.returns
returns c =
    let speaker = ap (λ (e : EndpointState). e.speaker) (c.in_ok-opened.ensures ∙ c.put.ensures.was) in
    let same : c.put-2.new.self ≡ c.args.self.now =
    put_back (site_of c.args.end) c.in_ok-modes.spare.speaker c.in_ok-opened.opened.speaker c.args.self.now c.put.new.self c.put-2.new.self speaker c.put.ensures.is c.put-2.ensures.is in
    IfOk-weaker c.reopened_line.result (λ text. text ≡ said_line c.args.end (codes "reopened"))
    (λ text. (text ≡ said_line c.args.end (codes "reopened")) × (c.put-2.new.self ≡ c.args.self.now)) (λ text says. (says, same)) c.reopened_line.ensures
