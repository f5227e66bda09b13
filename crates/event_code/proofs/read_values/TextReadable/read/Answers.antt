use Rattle.std.proofs.Common.{◌∙◌}
use Rattle.std.proofs.lemmas.Result.{IfErr-at_err}
use Rattle.as4_values.specs.Texts.{IsText}
use Rattle.byte_forms.proofs.RefusalLemmas.{octets_refused}
use Rattle.as4_effects.proofs.CountLemmas.{text_counted}
use Rattle.event_code.proofs.TextReading.{text_spells, text_reads, bad_not_memory, bytes_differ}
use Rattle.event_code.proofs.read_values.TextReadable.read.Goals as goal

pub returns-in-Ok-2-clause-not_body : goal.returns-in-Ok-2-clause-not_body
returns-in-Ok-2-clause-not_body c = λ _.
    let octets = c.in_ok-octets.ensures.found in
    octets_refused IsText c.in_ok-octets.octets.now c.args.rest.now c.take_octets.new.self text_counted octets.0 octets.1
    (λ is. bytes_differ c.bytes.result.now c.in_ok-octets.octets.now c.eq.result c.eq.ensures c.if-eq.false
    (c.bytes.ensures.value ∙ text_reads c.in_ok-octets.octets.now c.in-Ok.text c.in-Ok.ensures.found is))

pub returns-in-Err-BadText-clause-not_body : goal.returns-in-Err-BadText-clause-not_body
returns-in-Err-BadText-clause-not_body c = λ _.
    let octets = c.in_ok-octets.ensures.found in
    octets_refused IsText c.in_ok-octets.octets.now c.args.rest.now c.take_octets.new.self text_counted octets.0 octets.1
    (λ is. bad_not_memory _ _ c.in-Err-BadText.field-0-is
    (IfErr-at_err _ c.in-Err-BadText.is (c.read.ensures.only c.in_ok-octets.octets.now (text_spells c.in_ok-octets.octets.now is))))
