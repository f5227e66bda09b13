use Rattle.as4_doors.proofs.AskedLemmas.{one_thing}
use Rattle.as4_doors.proofs.laws.one_request.Goals as goal

pub returns : goal.returns
returns c = one_thing
