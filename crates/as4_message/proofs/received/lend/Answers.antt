use Rattle.as4_message.proofs.ReceivedLemmas.{no_package_means}
use Rattle.as4_message.proofs.received.lend.Goals as goal

pub returns-in-Err : goal.returns-in-Err
returns-in-Err c =
    no_package_means c.args.media.now c.args.body.now c.in-Err.refusal c.no_package.result c.in-Err.ensures c.no_package.ensures.code c.no_package.ensures.memory
