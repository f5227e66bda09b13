use Rattle.unit_laws.proofs.ReadAgain.{unit_read_again}
use Rattle.unit_laws.proofs.laws.unit_is_read_again.Goals as goal

pub returns : goal.returns
returns c = unit_read_again c.args.unit.now c.show.ensures.again c.show.ensures.kept
