use Rattle.as4_values.proofs.TextLemmas.{one_text_of}
use Rattle.as4_values.proofs.text.one_text.Goals as goal

-- by the one core
pub returns : goal.returns
returns c = one_text_of
