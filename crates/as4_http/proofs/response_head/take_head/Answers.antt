use Rattle.as4_http.specs.Limits.{the_limits}
use Rattle.as4_http.specs.ResponseStarts.{HasNoResponseHead}
use Rattle.as4_http.proofs.RefusedLemmas.{refused_exit, refusal_weaker, denies_any}
use Rattle.as4_http.proofs.ResponseHeadLemmas.{none_long, none_says, none_on, begins}
use Rattle.as4_http.proofs.response_head.take_head.Goals as goal

pub returns-then-spans-gt-MAX_HEAD-clause-denied : goal.returns-then-spans-gt-MAX_HEAD-clause-denied
returns-then-spans-gt-MAX_HEAD-clause-denied c =
    none_on the_limits c.args.intake.now c.args.headers.now c.args.spans.now c.requires.head (none_long c.args.intake.now c.args.headers.now c.args.spans.now c.requires.head c.if-spans-gt-MAX_HEAD.true)

pub returns-in_err-start-clause-denied : goal.returns-in_err-start-clause-denied
returns-in_err-start-clause-denied c =
    refused_exit c.from_residual.result c.in_err-start.field-0.0 c.from_residual.ensures.1
    (λ refusal none. denies_any HasNoResponseHead c.args.intake.now refusal (refusal_weaker refusal (λ says more limits. none_on limits c.args.intake.now c.args.headers.now c.args.spans.now c.requires.head (none_says limits c.bytes.result.now c.args.intake.now c.args.headers.now c.args.spans.now c.requires.head c.bytes.ensures says) more) none))
    c.in_err-start.ensures.none

pub returns-clause-ok : goal.returns-clause-ok
returns-clause-ok c =
    begins c.bytes.result.now c.args.intake.now c.skip.new.self c.args.headers.now c.args.spans.now c.in_ok-start.start c.requires.head c.requires.fields c.if-spans-gt-MAX_HEAD.false c.skip.ensures c.bytes.ensures c.in_ok-start.ensures.ok
