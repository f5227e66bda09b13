use Rattle.std.proofs.lemmas.Result.{err_from_is_err_and}
use Rattle.event_code.proofs.KindReading.{pull_refused}
use Rattle.event_code.proofs.Passing.{passed}
use Rattle.event_code.proofs.read_payload.RouteReadable.read.Goals as goal

pub returns-in_err-mpc-in-1-clause-not_body : goal.returns-in_err-mpc-in-1-clause-not_body
returns-in_err-mpc-in-1-clause-not_body c = λ is.
    pull_refused c.args.rest.now c.take_byte.new.self (rw (← c.in-1.is) c.in_ok-take_byte.ensures.found)
    (c.in_err-mpc-in-1.ensures.not_body (passed _ _ (err_from_is_err_and c.from_residual-in_err-mpc-in-1.result c.from_residual-in_err-mpc-in-1.ensures.1) is))
