use Rattle.as4_values.specs.declared.message.Unit.TheVariants as unit
use Rattle.unit_laws.proofs.ReadAgain.{unit_read_again}
use Rattle.unit_laws.proofs.SignalKept.{signal_unit}
use Rattle.unit_laws.proofs.laws.signal_is_read_again.Goals as goal

pub returns : goal.returns
returns c = unit_read_again (unit.Signal c.args.signal.now) c.show.ensures.again (signal_unit c.args.signal.now c.show.ensures.kept)
