use Rattle.as4_values.specs.declared.message.Message.TheVariants.{User}
use Rattle.as4_doors.proofs.ResponseLemmas.{carries}
use Rattle.as4_doors.proofs.responding.entry.Goals as goal

pub returns : goal.returns
returns c = carries c.args.kept (User c.args.header.now c.args.payloads.now) _ _ _ _ c.made.result c.bytes.ensures c.bytes-2.ensures c.in_ok-wire.ensures c.made.ensures
