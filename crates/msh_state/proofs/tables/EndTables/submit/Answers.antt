use Rattle.exchange_model.specs.Apply.{is_fit, unsent}
use Rattle.msh_state.specs.Rooms.{queue_for}
use Rattle.msh_state.proofs.StepLemmas.{new_waits, next_number, pushed_queue, pushed_step}
use Rattle.msh_state.proofs.tables.EndTables.submit.Goals as goal

pub put_back-requires-clause-gone : goal.put_back-requires-clause-gone
unfolding is_fit
put_back-requires-clause-gone c =
    new_waits _ _ _ c.self.invariant.0 c.len-numbered.ensures.numbered (next_number _ c.self.inside.outbox.sent _ (rw (← c.self.view_is) at c.requires.fit))

pub put_back-requires-clause-queue : goal.put_back-requires-clause-queue
unfolding is_fit queue_for
put_back-requires-clause-queue c =
    pushed_queue c.self.inside.outbox.sent _ (unsent c.args.submission) _ c.len-numbered.ensures.numbered
    (next_number _ c.self.inside.outbox.sent _ (rw (← c.self.view_is) at c.requires.fit)) c.requires.queue c.commit_submit.ensures

pub invariant_of-self : goal.invariant_of-self
unfolding is_fit
invariant_of-self c = (
  pushed_step c.self.inside.outbox.sent _ (unsent c.args.submission) _ _ c.self.invariant.0 c.len-numbered.ensures.numbered
      (next_number _ c.self.inside.outbox.sent _ (rw (← c.self.view_is) at c.requires.fit)) c.commit_submit.ensures c.put_back.ensures,
  c.self.invariant.1,
  c.self.invariant.2,
  c.self.invariant.3,
)
