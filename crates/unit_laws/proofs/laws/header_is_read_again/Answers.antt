use Rattle.as4_values.specs.declared.message.Unit.TheVariants as unit
use Rattle.unit_laws.proofs.ReadAgain.{unit_read_again}
use Rattle.unit_laws.proofs.SignalKept.{user_unit}
use Rattle.unit_laws.proofs.laws.header_is_read_again.Goals as goal

pub returns : goal.returns
returns c = unit_read_again (unit.User c.args.header.now) c.show.ensures.again (user_unit c.args.header.now c.show.ensures.kept)
