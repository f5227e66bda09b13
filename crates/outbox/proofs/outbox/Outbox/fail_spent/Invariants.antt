use Rattle.std.proofs.Common.{◌≡◌, ◌+◌, map}
use Rattle.std.specs.Prelude.{count_by}
use Rattle.exchange_model.specs.Apply.{failed_if_spent}
use Rattle.exchange_model.specs.Questions.{is_spent}
use Rattle.outbox.proofs.outbox.Outbox.fail_spent.Given as goal

-- those that have expired so far were spent, and are counted
abbrev pub invariant-loop-number : goal.invariant-loop-number
invariant-loop-number l = record {
  sent : map (failed_if_spent l.moment) l.self.sent ≡ map (failed_if_spent l.moment) l.fn.self.sent;
  count : l.count + count_by (is_spent l.moment) l.self.sent ≡ count_by (is_spent l.moment) l.fn.self.sent;
  room : l.self.room ≡ l.fn.self.room;
}

abbrev pub decreases-loop-number : goal.decreases-loop-number
decreases-loop-number l = count_by (is_spent l.moment) l.self.sent
