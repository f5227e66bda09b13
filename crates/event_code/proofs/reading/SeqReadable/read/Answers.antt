use Rattle.std.proofs.lemmas.Result.{err_from_is_err_and}
use Rattle.byte_forms.proofs.RefusalLemmas.{list_refused_count, list_refused_items}
use Rattle.event_code.proofs.Passing.{passed}
use Rattle.event_code.proofs.reading.SeqReadable.read.Goals as goal

pub returns-in_err-count-clause-not_body : goal.returns-in_err-count-clause-not_body
returns-in_err-count-clause-not_body g c = λ _.
    list_refused_count g.T.Readable.is_one g.T.Readable.body c.args.rest.now c.in_err-count.ensures.short

pub returns-in_err-read_items-clause-not_body : goal.returns-in_err-read_items-clause-not_body
returns-in_err-read_items-clause-not_body g c = λ is.
    let count = c.in_ok-count.ensures.found in
    list_refused_items g.T.Readable.is_one g.T.Readable.body c.args.rest.now c.take_number.new.self c.in_ok-count.count count.0 count.1
    (c.in_err-read_items.ensures.not_body (passed _ _ (err_from_is_err_and c.from_residual-in_err-read_items.result c.from_residual-in_err-read_items.ensures.1) is))
