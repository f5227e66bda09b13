use Rattle.std.proofs.Common.{◌≡◌, List, length, take, drop, ◌++◌, refl, sym, ap, subst, ◌∙◌, arith}
use Rattle.std.specs.Prelude.{IsTrue}
use Rattle.std.proofs.lemmas.Bool.{and_parts}
use Rattle.exchange_model.specs.Apply.{changed, is_one, tried}
use Rattle.exchange_model.specs.Questions.{is_pending, is_waiting, sent_at}
use Rattle.exchange_model.specs.declared.sent.Sent.{Sent}
use Rattle.outbox.specs.Failing.{failing_at}
use Rattle.outbox.specs.Submissions.{Stand, Submissions}
use Rattle.outbox.proofs.CountingLemmas.{counted_tried}
use Rattle.outbox.proofs.KeptLemmas.{is_watched, waiting_pending, watches_tried, written}
use Rattle.outbox.proofs.NumberingLemmas.{numbers_changed}
use Rattle.outbox.proofs.PartsLemmas.{Parts, length_changed, parts_of, passes}
use Rattle.outbox.proofs.outbox.Outbox.mark_tried.Goals as goal

pub set_due-requires : goal.set_due-requires
set_due-requires c =
    let items : List Sent = c.self.inside.sent.items in
    let same : items ≡ c.args.self.now.sent = ap (λ (v : Submissions). v.sent) c.self.view_is in
    let waiting : IsTrue (is_one is_waiting (sent_at c.args.number items)) =
    subst (λ sent. IsTrue (is_one is_waiting (sent_at c.args.number sent))) (sym same) c.requires.waiting in
    let parts : Parts c.args.number items = parts_of is_waiting c.args.number items c.self.invariant.0.numbered waiting in
    record {
      there = is_watched c.self.inside.failing items c.args.number c.self.invariant.0 c.self.invariant.2
          (waiting_pending items c.args.number parts waiting);
    }

pub invariant_of-self : goal.invariant_of-self
invariant_of-self c =
    let items : List Sent = c.self.inside.sent.items in
    let same : items ≡ c.args.self.now.sent = ap (λ (v : Submissions). v.sent) c.self.view_is in
    let waiting : IsTrue (is_one is_waiting (sent_at c.args.number items)) =
    subst (λ sent. IsTrue (is_one is_waiting (sent_at c.args.number sent))) (sym same) c.requires.waiting in
    let parts : Parts c.args.number items = parts_of is_waiting c.args.number items c.self.invariant.0.numbered waiting in
    let pending : IsTrue (is_pending parts.one) = (and_parts _ _ (passes is_waiting c.args.number items parts waiting)).0 in
    let after : c.mark_tried-fails_at.new.sent ≡ changed c.args.number (tried c.args.moment) items =
    c.mark_tried-fails_at.ensures.after ∙ ap (changed c.args.number (tried c.args.moment)) c.as_mut_slice.ensures.value in
    let long : length c.mark_tried-fails_at.new.sent ≡ length items = ap length after ∙ length_changed c.args.number (tried c.args.moment) items in
    let now : take c.self.inside.sent.len (c.mark_tried-fails_at.new.sent ++ drop (length c.mark_tried-fails_at.new.sent) items)
    ≡ changed c.args.number (tried c.args.moment) items =
    written c.self.inside.sent.len c.mark_tried-fails_at.new.sent items (omega (arith, c.self.inside.sent.ok)) long ∙ after in
    let fails : c.mark_tried-fails_at.result ≡ failing_at (tried c.args.moment parts.one) =
    c.mark_tried-fails_at.ensures.fails parts.one (ap (sent_at c.args.number) c.as_mut_slice.ensures.value ∙ parts.found) in
    rw now (
      subst Stand after c.mark_tried-fails_at.ensures.stand,
      numbers_changed c.self.inside.numbers c.args.number (tried c.args.moment) items parts refl c.self.invariant.1,
      watches_tried c.self.inside.failing c.set_due.new.self items c.args.number c.args.moment c.mark_tried-fails_at.result parts c.self.invariant.0
          pending fails c.self.invariant.2 c.set_due.ensures.placed,
      counted_tried c.args.number c.args.moment c.self.inside.counts items parts c.self.invariant.3,
      λ some.
          let room = c.self.invariant.4 some in
          (room.0, λ few. let watch = room.1 few in (omega (arith, watch.0, c.set_due.ensures.placed.count), c.set_due.ensures.room ∙ watch.1)),
    )
