use Rattle.as4_doors.proofs.AskedLemmas.{one_refusal_of}
use Rattle.as4_doors.proofs.laws.one_refusal.Goals as goal

pub returns : goal.returns
returns c = one_refusal_of
