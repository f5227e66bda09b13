use Rattle.message_laws.proofs.AgainLemmas.{user_again, signal_again, pair_again}
use Rattle.message_laws.proofs.laws.message_is_read_again.Goals as goal

pub returns-in-User : goal.returns-in-User
returns-in-User c = rw c.in-User.is (user_again c.in-User.header c.in-User.payloads c.header_is_read_again.ensures c.package_is_read_again.ensures)

pub returns-in-Signal : goal.returns-in-Signal
returns-in-Signal c = rw c.in-Signal.is (signal_again c.in-Signal.signal c.signal_is_read_again.ensures c.envelope_is_read_again.ensures)

pub returns-in-Pair : goal.returns-in-Pair
returns-in-Pair c = rw c.in-Pair.is (pair_again c.in-Pair.pair c.pair_is_read_again.ensures c.envelope_is_read_again-in-Pair.ensures)
