use Rattle.unit_laws.proofs.EnvelopeAlike.{unit_same}
use Rattle.unit_laws.proofs.NameAlike.{read_by_name}
use Rattle.unit_laws.proofs.ShownAlike.{swapped}
use Rattle.unit_laws.proofs.reading.the_order_of_names_says_nothing.Goals as goal

pub returns-clause-same : goal.returns-clause-same
returns-clause-same c = λ levels a b same. unit_same levels a b (read_by_name levels a b same)

pub returns-clause-swapped : goal.returns-clause-swapped
returns-clause-swapped c = swapped
