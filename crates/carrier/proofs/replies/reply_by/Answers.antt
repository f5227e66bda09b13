use Rattle.std.proofs.Common.{◌≡◌, ℕ, List, [], ap, subst, ◌∙◌}
use Rattle.std.specs.Prelude.{Ok, unwrap_or}
use Rattle.as4_http.specs.declared.message.Response.{Response}
use Rattle.as4_message.specs.Meaning.{Copies, Means}
use Rattle.exchange_model.specs.declared.reply.Reply.TheVariants.{Answer}
use Rattle.carrier.proofs.replies.reply_by.Goals as goal

pub returns-in-Ok-clause-answer : goal.returns-in-Ok-clause-answer
returns-in-Ok-clause-answer c = λ m media body same wire itself.
    let typed : c.media_of.result.now ≡ media = c.media_of.ensures ∙ ap (λ (r : Response). unwrap_or r.media []) same in
    let whole : c.bytes.result.now ≡ body = c.bytes.ensures ∙ ap (λ (r : Response). r.body) same in
    ap Answer (itself media body c.in-Ok.message wire
    (subst (λ (b : List ℕ). Copies (Means media b) (Ok c.in-Ok.message)) whole
    (subst (λ (t : List ℕ). Copies (Means t c.bytes.result.now) (Ok c.in-Ok.message)) typed c.in-Ok.ensures.meaning)))
