use Rattle.as4_values.specs.Word.{IsWord}
use Rattle.as4_values.specs.declared.word.Word.TheVariants.{Identifier}
use Rattle.byte_forms.proofs.RefusalLemmas.{octets_refused}
use Rattle.as4_effects.proofs.CountLemmas.{word_counted}
use Rattle.event_code.proofs.read_values.MessageIdReadable.read.Goals as goal

pub returns-in-Err-BadId-clause-not_body : goal.returns-in-Err-BadId-clause-not_body
returns-in-Err-BadId-clause-not_body c = λ _.
    let octets = c.in_ok-take_octets.ensures.found in
    octets_refused (IsWord Identifier) c.in_ok-take_octets.field-0.now c.args.rest.now c.take_octets.new.self (word_counted Identifier) octets.0 octets.1
    (λ is. let no = c.in-Err-BadId.ensures.only is in cc)
