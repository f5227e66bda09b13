use Rattle.std.proofs.lemmas.Result.{err_from_is_err_and}
use Rattle.byte_forms.proofs.RefusalLemmas.{text_refused_count, text_refused, text_found}
use Rattle.event_code.proofs.rest.Rest.take_octets.Goals as goal

pub returns-in_err-len-clause-not_body : goal.returns-in_err-len-clause-not_body
returns-in_err-len-clause-not_body c =
    let p = err_from_is_err_and c.from_residual.result c.from_residual.ensures.1 in
    rw (p.1) (text_refused_count c.args.self.now c.in_err-len.ensures.short)

pub returns-in_err-octets-clause-not_body : goal.returns-in_err-octets-clause-not_body
returns-in_err-octets-clause-not_body c =
    let p = err_from_is_err_and c.from_residual-in_err-octets.result c.from_residual-in_err-octets.ensures.1 in
    let number = c.in_ok-len.ensures.found in
    rw (p.1) (text_refused c.args.self.now c.take_number.new.self c.in_ok-len.len number.0 number.1 c.in_err-octets.ensures.short)

pub returns-clause-found : goal.returns-clause-found
returns-clause-found c =
    let number = c.in_ok-len.ensures.found in
    let octets = c.in_ok-octets.ensures.found in
    text_found c.args.self.now c.take_number.new.self c.take.new.self c.in_ok-octets.octets.now c.in_ok-len.len number.0 number.1 octets.0 octets.1
