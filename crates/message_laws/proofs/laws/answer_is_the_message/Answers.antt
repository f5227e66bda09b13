use Rattle.message_laws.proofs.OneLemmas.{answer_again}
use Rattle.message_laws.proofs.laws.answer_is_the_message.Goals as goal

pub returns : goal.returns
returns c = λ media body answer wire short paired answers.
    let found = c.message_is_read_again.ensures media body wire short paired in
    answer_again c.args.message.now media body found.0 found.1 found.2 answer answers
