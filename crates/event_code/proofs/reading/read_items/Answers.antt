use Rattle.std.proofs.Common.{◌<◌, length, arith}
use Rattle.std.proofs.lemmas.Result.{err_from_is_err_and}
use Rattle.byte_forms.proofs.RefusalLemmas.{list_refused}
use Rattle.event_code.proofs.Passing.{passed}
use Rattle.event_code.proofs.reading.read_items.Goals as goal

pub returns-in_err-read-clause-not_body : goal.returns-in_err-read-clause-not_body
returns-in_err-read-clause-not_body g c = λ is.
    let below : length c.loop.items.items < c.args.count = omega arith in
    list_refused g.T.Readable.is_one g.T.Readable.body c.once.ensures c.args.rest.now c.loop.rest c.loop.items.items c.args.count
    c.loop.invariant.2 c.loop.invariant.1 below (c.in_err-read.ensures.not_body (passed _ _ (err_from_is_err_and c.from_residual.result c.from_residual.ensures.1) is))
