use Rattle.as4_doors.proofs.AskedLemmas.{refused_asks_nothing}
use Rattle.as4_doors.proofs.laws.refused_or_asked.Goals as goal

pub returns : goal.returns
returns c = refused_asks_nothing
