use Rattle.std.proofs.Common.{◌∙◌, sym}
use Rattle.msh_state.proofs.StepLemmas.{put_again}
use Rattle.msh_state.proofs.applying.put_back.Goals as goal

pub returns-in-Some : goal.returns-in-Some
returns-in-Some c =
    c.insert.ensures
    ∙ put_again c.args.number c.args.outbox.now.sent c.args.queue.now c.in-Some.due c.args.channels.now.waiting
    (sym c.waits.ensures ∙ c.if-waits.true) (sym c.in-Some.is ∙ c.due.ensures) c.requires.queue
