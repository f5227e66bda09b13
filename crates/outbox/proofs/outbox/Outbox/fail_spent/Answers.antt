use Rattle.std.proofs.Common.{◌≡◌, ◌≤◌, length, map, sym, ap, ◌∙◌, arith}
use Rattle.std.specs.Prelude.{count_by}
use Rattle.std.proofs.lemmas.List.{length-map}
use Rattle.std.proofs.lemmas.List.Sums.{count_by-le-length}
use Rattle.exchange_model.specs.Apply.{failed_if_spent}
use Rattle.exchange_model.specs.Questions.{is_spent}
use Rattle.outbox.proofs.SpentLemmas.{fails_same, none_fails, one_fewer}
use Rattle.outbox.proofs.outbox.Outbox.fail_spent.Goals as goal

pub overflow_add-count : goal.overflow_add-count
overflow_add-count c =
    let fewer = one_fewer c.args.moment c.in-Some.number c.loop-number.self.sent c.first_spent.ensures.numbered c.in-Some.ensures.spent in
    let within : count_by (is_spent c.args.moment) c.args.self.now.sent ≤ length c.args.self.now.sent = count_by-le-length (is_spent c.args.moment) c.args.self.now.sent in
    let long : length c.loop-number.self.sent ≡ length c.args.self.now.sent =
    sym (length-map c.loop-number.self.sent (failed_if_spent c.args.moment)) ∙ ap length c.loop-number.invariant.sent
    ∙ length-map c.args.self.now.sent (failed_if_spent c.args.moment) in
    omega (arith, fewer, within, long, c.loop-number.invariant.count, c.first_spent.ensures.few)

pub loop-number-smaller : goal.loop-number-smaller
loop-number-smaller c =
    let fewer = one_fewer c.args.moment c.in-Some.number c.loop-number.self.sent c.first_spent.ensures.numbered c.in-Some.ensures.spent in
    rw c.settle.ensures.sent (omega (arith, fewer))

pub loop-number-preserved : goal.loop-number-preserved
loop-number-preserved c =
    let fewer = one_fewer c.args.moment c.in-Some.number c.loop-number.self.sent c.first_spent.ensures.numbered c.in-Some.ensures.spent in
    record {
      sent = ap (map (failed_if_spent c.args.moment)) c.settle.ensures.sent
          ∙ fails_same c.args.moment c.in-Some.number c.loop-number.self.sent c.first_spent.ensures.numbered c.in-Some.ensures.spent
          ∙ c.loop-number.invariant.sent;
      count = rw c.settle.ensures.sent (omega (arith, fewer, c.loop-number.invariant.count));
      room = c.settle.ensures.room ∙ c.loop-number.invariant.room;
    }

pub returns-clause-sent : goal.returns-clause-sent
returns-clause-sent c = sym (none_fails c.args.moment c.loop-number.self.sent c.in_default.ensures.none) ∙ c.loop-number.invariant.sent
