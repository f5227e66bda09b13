use Rattle.as4_values.proofs.AddressLemmas.{past_ports}
use Rattle.as4_values.proofs.address.writes_port.Goals as goal

pub returns-then-number-gt-LAST_PORT : goal.returns-then-number-gt-LAST_PORT
returns-then-number-gt-LAST_PORT c =
    past_ports c.args.digits.now c.loop-digit.digit-index c.loop-digit.number c.loop-digit-test.true c.loop-digit.invariant.1 c.if-number-gt-LAST_PORT.true
