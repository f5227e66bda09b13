use Rattle.stranger_laws.proofs.NeedLemmas.{needs_record}
use Rattle.stranger_laws.proofs.laws.full_needs_its_record.Goals as goal

pub returns : goal.returns
returns c = needs_record
