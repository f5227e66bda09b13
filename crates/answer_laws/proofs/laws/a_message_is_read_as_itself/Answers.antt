use Rattle.answer_laws.proofs.SignalLemmas.{pair_itself, signal_itself, user_itself}
use Rattle.answer_laws.proofs.laws.a_message_is_read_as_itself.Goals as goal

pub returns-in-User : goal.returns-in-User
returns-in-User c =
    rw c.in-User.is (user_itself c.in-User.header c.in-User.payloads (record { again = c.show.ensures.again; kept = c.show.ensures.kept }))

pub returns-in-Signal : goal.returns-in-Signal
returns-in-Signal c = rw c.in-Signal.is (λ paired. signal_itself c.in-Signal.signal c.show-in-Signal.ensures.again c.show-in-Signal.ensures.kept)

pub returns-in-Pair : goal.returns-in-Pair
returns-in-Pair c =
    rw c.in-Pair.is (λ paired. pair_itself c.in-Pair.pair c.show-in-Pair.ensures.again c.show-in-Pair.ensures.kept
    c.show-in-Pair-2.ensures.again c.show-in-Pair-2.ensures.kept)
