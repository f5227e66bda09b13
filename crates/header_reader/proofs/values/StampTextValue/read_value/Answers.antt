use Rattle.header_reader.proofs.ValueLemmas.{stamp_read, stamp_unread}
use Rattle.header_reader.proofs.values.StampTextValue.read_value.Goals as goal

pub returns-in-Ok : goal.returns-in-Ok
returns-in-Ok c = stamp_read c.args.bytes.now c.trimmed.result.now c.in-Ok.stamp c.trimmed.ensures c.in-Ok.ensures.found

pub returns-in-Err-BadStamp : goal.returns-in-Err-BadStamp
returns-in-Err-BadStamp c =
    stamp_unread c.args.bytes.now c.trimmed.result.now c.trimmed.ensures (λ is. let only = c.in-Err-BadStamp.ensures.only is in cc)
