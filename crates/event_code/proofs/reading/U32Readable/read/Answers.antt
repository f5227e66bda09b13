use Rattle.byte_forms.proofs.RefusalLemmas.{number_refused}
use Rattle.event_code.proofs.reading.U32Readable.read.Goals as goal

pub returns-in_err-take_number-clause-not_body : goal.returns-in_err-take_number-clause-not_body
returns-in_err-take_number-clause-not_body c = λ _. number_refused 4 c.args.rest.now c.in_err-take_number.ensures.short
