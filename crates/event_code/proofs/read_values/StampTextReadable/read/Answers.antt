use Rattle.event_code.specs.Spelled.{IsSpelledStamp}
use Rattle.byte_forms.proofs.RefusalLemmas.{octets_refused, refused_within}
use Rattle.as4_effects.proofs.CountLemmas.{stamp_counted}
use Rattle.event_code.proofs.TextReading.{read_as}
use Rattle.event_code.proofs.read_values.StampTextReadable.read.Goals as goal

pub returns-in-Ok-clause-found : goal.returns-in-Ok-clause-found
unfolding IsSpelledStamp
returns-in-Ok-clause-found c =
    let octets = c.in_ok-take_octets.ensures.found in
    let stamp = c.in-Ok.ensures.found in
    read_as IsSpelledStamp c.in-Ok.stamp c.in_ok-take_octets.field-0.now c.args.rest.now c.take_octets.new.self stamp.0 stamp.1 octets.1

pub returns-in-Err-BadStamp-clause-not_body : goal.returns-in-Err-BadStamp-clause-not_body
unfolding IsSpelledStamp
returns-in-Err-BadStamp-clause-not_body c = λ _.
    let octets = c.in_ok-take_octets.ensures.found in
    octets_refused IsSpelledStamp c.in_ok-take_octets.field-0.now c.args.rest.now c.take_octets.new.self stamp_counted octets.0 octets.1
    (λ is. let no = c.in-Err-BadStamp.ensures.only is in cc)

pub returns-in_err-take_octets-clause-not_body : goal.returns-in_err-take_octets-clause-not_body
unfolding IsSpelledStamp
returns-in_err-take_octets-clause-not_body c = λ _. refused_within _ IsSpelledStamp _ c.args.rest.now stamp_counted c.in_err-take_octets.ensures.not_body
