use Rattle.std.proofs.lemmas.Bool.{leb-true}
use Rattle.exchange_model.specs.Questions.{sent_at}
use Rattle.table_tests.proofs.StandingLemmas.{is_one_waiting}
use Rattle.table_tests.proofs.sent.waits.Goals as goal

pub returns : goal.returns
returns c few =
    is_one_waiting (sent_at c.args.number c.args.outbox.now.sent) c.in-Some-Pending.tries c.in-Some.submission.now
    (rw c.in-Some-Pending.field-0-is at c.in-Some-Pending.ensures) c.in-Some.ensures (leb-true _ _ few)
