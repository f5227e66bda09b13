use Rattle.std.proofs.Common.{ap, ◌∙◌}
use Rattle.std.proofs.lemmas.Result.{IfOk-weaker}
use Rattle.drill_world.specs.Endpoints.{EndpointState}
use Rattle.hub_world.proofs.TrioLemmas.{put_back}
use Rattle.hub_world.proofs.trio.Trio.crash.Goals as goal

pub returns-clause-opens : goal.returns-clause-opens
returns-clause-opens c =
    let speaker = ap (λ (e : EndpointState). e.speaker) (c.in_ok-opened.ensures ∙ c.put.ensures.was) in
    let same = put_back c.args.end c.in_ok-modes.spare.speaker c.in_ok-opened.opened.speaker c.args.self.now c.put.new.self c.put-2.new.self speaker c.put.ensures.is c.put-2.ensures.is in
    IfOk-weaker c.reopened_line.result _ _ (λ text says. (says, same)) c.reopened_line.ensures
