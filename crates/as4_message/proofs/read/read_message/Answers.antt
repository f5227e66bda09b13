use Rattle.as4_message.specs.Meaning.{received_value}
use Rattle.as4_message.proofs.MeaningLemmas.{copy_is_paired}
use Rattle.as4_message.proofs.read.read_message.Goals as goal

pub returns-in-Ok-message_of-clause-paired : goal.returns-in-Ok-message_of-clause-paired
returns-in-Ok-message_of-clause-paired c =
    copy_is_paired (received_value c.in-Ok.received) c.in-Ok-message_of.message c.in-Ok.ensures.paired c.in-Ok-message_of.ensures
