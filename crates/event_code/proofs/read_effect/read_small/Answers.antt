use Rattle.std.proofs.lemmas.Result.{err_from_is_err_and}
use Rattle.event_code.proofs.KindReading.{code_refused}
use Rattle.event_code.proofs.Passing.{passed}
use Rattle.event_code.proofs.read_effect.read_small.Goals as goal

pub returns-in_err-number-in-6-clause-not_body : goal.returns-in_err-number-in-6-clause-not_body
returns-in_err-number-in-6-clause-not_body c = λ is.
    rw (c.in-6.is) (code_refused c.args.rest.now
    (c.in_err-number-in-6.ensures.not_body (passed _ _ (err_from_is_err_and c.from_residual-in_err-number-in-6.result c.from_residual-in_err-number-in-6.ensures.1) is)))
