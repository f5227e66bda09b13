use Rattle.as4_doors.proofs.AskedLemmas.{stranger_asks_nothing, stranger_is_not_refused}
use Rattle.as4_doors.proofs.laws.strangers_ask_nothing.Goals as goal

pub returns-clause-asks : goal.returns-clause-asks
returns-clause-asks c = stranger_asks_nothing

pub returns-clause-refused : goal.returns-clause-refused
returns-clause-refused c = stranger_is_not_refused
