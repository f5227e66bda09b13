use Rattle.drill_script.proofs.OneLineLemmas.{one_line}
use Rattle.drill_script.proofs.reading.one_line.Goals as goal

pub returns : goal.returns
returns c = one_line
