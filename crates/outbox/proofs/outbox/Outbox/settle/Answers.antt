use Rattle.std.proofs.Common.{◌≡◌, List, length, take, drop, ◌++◌, refl, sym, ap, subst, ◌∙◌, arith}
use Rattle.std.specs.Prelude.{IsTrue}
use Rattle.exchange_model.specs.Apply.{changed, is_one, marked}
use Rattle.exchange_model.specs.Questions.{is_pending, sent_at}
use Rattle.exchange_model.specs.declared.sent.Sent.{Sent}
use Rattle.outbox.specs.Submissions.{Stand, Submissions}
use Rattle.outbox.proofs.CountingLemmas.{counted_settled}
use Rattle.outbox.proofs.KeptLemmas.{is_watched, watches_settled, written}
use Rattle.outbox.proofs.NumberingLemmas.{numbers_changed}
use Rattle.outbox.proofs.PartsLemmas.{Parts, length_changed, parts_of, passes}
use Rattle.outbox.proofs.outbox.Outbox.settle.Goals as goal

pub remove-requires : goal.remove-requires
remove-requires c =
    let same : c.self.inside.sent.items ≡ c.args.self.now.sent = ap (λ (v : Submissions). v.sent) c.self.view_is in
    let pending : IsTrue (is_one is_pending (sent_at c.args.number c.self.inside.sent.items)) =
    subst (λ sent. IsTrue (is_one is_pending (sent_at c.args.number sent))) (sym same) c.requires.pending in
    record { there = is_watched c.self.inside.failing c.self.inside.sent.items c.args.number c.self.invariant.0 c.self.invariant.2 pending }

pub invariant_of-self : goal.invariant_of-self
invariant_of-self c =
    let items : List Sent = c.self.inside.sent.items in
    let same : items ≡ c.args.self.now.sent = ap (λ (v : Submissions). v.sent) c.self.view_is in
    let pending : IsTrue (is_one is_pending (sent_at c.args.number items)) =
    subst (λ sent. IsTrue (is_one is_pending (sent_at c.args.number sent))) (sym same) c.requires.pending in
    let parts : Parts c.args.number items = parts_of is_pending c.args.number items c.self.invariant.0.numbered pending in
    let after : c.settle.new.sent ≡ changed c.args.number (marked c.args.mark) items =
    c.settle.ensures.after ∙ ap (changed c.args.number (marked c.args.mark)) c.as_mut_slice.ensures.value in
    let long : length c.settle.new.sent ≡ length items = ap length after ∙ length_changed c.args.number (marked c.args.mark) items in
    let now : take c.self.inside.sent.len (c.settle.new.sent ++ drop (length c.settle.new.sent) items) ≡ changed c.args.number (marked c.args.mark) items =
    written c.self.inside.sent.len c.settle.new.sent items (omega (arith, c.self.inside.sent.ok)) long ∙ after in
    rw now (
      subst Stand after c.settle.ensures.stand,
      numbers_changed c.self.inside.numbers c.args.number (marked c.args.mark) items parts refl c.self.invariant.1,
      watches_settled c.self.inside.failing c.remove.new.self items c.args.number c.args.mark parts c.self.invariant.0 c.requires.settled
          c.self.invariant.2 c.remove.ensures.gone,
      rw c.add.ensures (counted_settled c.args.number c.args.mark c.self.inside.counts items parts
          (passes is_pending c.args.number items parts pending) c.self.invariant.3),
      λ some.
          let room = c.self.invariant.4 some in
          (room.0, λ few. let watch = room.1 few in (omega (arith, watch.0, c.remove.ensures.gone.count), c.remove.ensures.room ∙ watch.1)),
    )
