use Rattle.as4_message.proofs.MeaningLemmas.{known_of, parts_of}
use Rattle.as4_message.proofs.received.lend_message.Goals as goal

pub returns-clause-known : goal.returns-clause-known
returns-clause-known c = known_of c.args.media.now c.args.body.now c.lend.result c.lend.ensures

pub returns-clause-paired : goal.returns-clause-paired
returns-clause-paired c = parts_of c.args.media.now c.args.body.now c.lend.result c.lend.ensures
