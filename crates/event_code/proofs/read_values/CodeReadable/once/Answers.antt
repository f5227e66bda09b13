use Rattle.as4_effects.proofs.CountLemmas.{words_once}
use Rattle.as4_values.specs.declared.word.Word.TheVariants.{ErrorCode}
use Rattle.event_code.proofs.read_values.CodeReadable.once.Goals as goal

pub returns : goal.returns
returns c = words_once ErrorCode
