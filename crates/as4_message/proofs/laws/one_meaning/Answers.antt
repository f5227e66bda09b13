use Rattle.as4_message.proofs.MeaningLemmas.{one_meaning_of}
use Rattle.as4_message.proofs.laws.one_meaning.Goals as goal

pub returns : goal.returns
returns c = one_meaning_of
