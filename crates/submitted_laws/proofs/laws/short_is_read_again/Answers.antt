use Rattle.submitted_laws.proofs.laws.short_is_read_again.Goals as goal

pub returns : goal.returns
returns c = λ short paired media body wire. record {
  meant = c.message_is_read_again.ensures media body wire short paired;
  answered = λ answer answers. c.answer_is_the_message.ensures media body answer wire short paired answers;
}
