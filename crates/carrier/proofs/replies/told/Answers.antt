use Rattle.std.proofs.Common.{ap, sym, subst, ◌∙◌, false}
use Rattle.std.specs.Prelude.{Ok}
use Rattle.carrier.proofs.ReplyLemmas.{made_reply}
use Rattle.sessions.specs.Answering.{Tells}
use Rattle.sessions.specs.declared.ended.Ended.{Ended}
use Rattle.carrier.proofs.replies.told.Goals as goal

pub returns-in-Ok-clause-told : goal.returns-in-Ok-clause-told
returns-in-Ok-clause-told c = λ made tells is.
    let r = made_reply made c.args.response (subst (λ (e : Ended). Tells false made e c.args.response) c.in-Answered.is tells) is in
    ap Ok (c.in-Ok.ensures r.0 r.2 r.3) ∙ sym r.1
