use Rattle.as4_message.proofs.MeaningLemmas.{some_meaning}
use Rattle.as4_message.proofs.laws.each_has_a_meaning.Goals as goal

pub returns : goal.returns
returns c = some_meaning
