use Rattle.std.proofs.Common.{refl}
use Rattle.std.proofs.lemmas.Result.{err_from_is_err_and}
use Rattle.event_code.proofs.Passing.{passed}
use Rattle.event_code.proofs.StandingLemmas.{carried_found, carried_refused, carried_refused_behind}
use Rattle.event_code.proofs.read_messages.read_carried.Goals as goal

pub returns-in_err-submission-clause-not_body : goal.returns-in_err-submission-clause-not_body
returns-in_err-submission-clause-not_body c = λ is.
    carried_refused c.args.rest.now
    (c.in_err-submission.ensures.not_body (passed _ _ (err_from_is_err_and c.from_residual.result c.from_residual.ensures.1) is))

pub returns-in-Ok-clause-found : goal.returns-in-Ok-clause-found
returns-in-Ok-clause-found c =
    let sent = c.in_ok-submission.ensures.found in
    let terms = c.in-Ok.ensures.found in
    carried_found c.args.rest.now c.read.new.rest c.read-2.new.rest _ sent.0 sent.1 terms.0 terms.1

pub returns-in-Err-clause-not_body : goal.returns-in-Err-clause-not_body
returns-in-Err-clause-not_body c = λ is.
    let sent = c.in_ok-submission.ensures.found in
    carried_refused_behind c.args.rest.now c.read.new.rest c.in_ok-submission.submission c.once.ensures sent.0 sent.1
    (c.in-Err.ensures.not_body (passed _ _ (c.in-Err.refusal, refl, refl) is))
