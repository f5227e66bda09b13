use Rattle.as4_values.specs.declared.word.Word.TheVariants.{Identifier}
use Rattle.header_reader.proofs.ValueLemmas.{word_read, word_unread}
use Rattle.header_reader.proofs.values.MessageIdValue.read_value.Goals as goal

pub returns-in-Ok : goal.returns-in-Ok
returns-in-Ok c = word_read Identifier c.args.bytes.now c.trimmed.result.now c.in-Ok.id c.trimmed.ensures c.in-Ok.ensures.found

pub returns-in-Err-BadId : goal.returns-in-Err-BadId
returns-in-Err-BadId c =
    word_unread Identifier c.args.bytes.now c.trimmed.result.now c.trimmed.ensures (λ is. let only = c.in-Err-BadId.ensures.only is in cc)
