use Rattle.event_code.proofs.RecordReading.{one_body}
use Rattle.event_code.proofs.record.one_body.Goals as goal

pub returns : goal.returns
returns c = one_body c.once.ensures
