use Rattle.as4_host.proofs.CountLemmas.{settled, parts}
use Rattle.as4_host.proofs.counts.a_settled_fault_is_counted.Goals as goal

pub returns-clause-settled : goal.returns-clause-settled
returns-clause-settled c = settled

pub returns-clause-parts : goal.returns-clause-parts
returns-clause-parts c = parts
