use Rattle.exchange_model.specs.Questions.{sent_at}
use Rattle.table_tests.proofs.StandingLemmas.{is_one_pending}
use Rattle.table_tests.proofs.sent.pends.Goals as goal

pub returns : goal.returns
returns c _ =
    is_one_pending (sent_at c.args.number c.args.outbox.now.sent) c.in-Some-Pending.field-0-0
    (rw c.in-Some-Pending.field-0-is at c.in-Some-Pending.ensures)
