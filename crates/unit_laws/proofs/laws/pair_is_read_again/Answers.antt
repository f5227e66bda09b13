use Rattle.as4_values.specs.declared.message.Unit.TheVariants as unit
use Rattle.unit_laws.proofs.ReadAgain.{unit_read_again}
use Rattle.unit_laws.proofs.SignalKept.{pair_unit}
use Rattle.unit_laws.proofs.laws.pair_is_read_again.Goals as goal

pub returns : goal.returns
returns c = unit_read_again (unit.Pair c.args.pair.now) (c.show.ensures.again, c.show-2.ensures.again) (pair_unit c.args.pair.now c.show.ensures.kept c.show-2.ensures.kept)
