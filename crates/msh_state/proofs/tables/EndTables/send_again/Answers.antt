use Rattle.std.proofs.Common.{◌≡◌, IsTrue}
use Rattle.exchange_model.specs.Apply.{is_fit, is_one}
use Rattle.exchange_model.specs.Questions.{is_waiting, sent_at}
use Rattle.msh_state.specs.Rooms.{queue_at, queue_for}
use Rattle.msh_state.proofs.StepLemmas.{gone_out, tried_in, tried_step}
use Rattle.msh_state.proofs.tables.EndTables.send_again.Goals as goal

pub put_back-requires-clause-gone : goal.put_back-requires-clause-gone
put_back-requires-clause-gone c = gone_out _ _ _ c.take_out.ensures.waiting

pub put_back-requires-clause-queue : goal.put_back-requires-clause-queue
unfolding queue_for
put_back-requires-clause-queue c =
    let there : c.args.queue.now ≡ queue_at c.args.number c.self.inside.outbox.sent = rw (← c.self.view_is) at c.requires.queue in
    tried_in c.args.number c.self.inside.moment _ _ _ there c.mark_tried.ensures.sent

pub invariant_of-self : goal.invariant_of-self
unfolding is_fit
invariant_of-self c =
    let fit : IsTrue (is_one is_waiting (sent_at c.args.number c.self.inside.outbox.sent)) = rw (← c.self.view_is) at c.requires.fit in (
      tried_step c.args.number c.self.inside.moment _ _ _ _ _ c.self.invariant.0 c.len-numbered.ensures.numbered fit c.take_out.ensures.waiting c.mark_tried.ensures.sent c.put_back.ensures,
      c.self.invariant.1,
      c.self.invariant.2,
      c.self.invariant.3,
    )
