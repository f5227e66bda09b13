use Rattle.std.proofs.Common.{◌≡◌, List, Some, None, length, sym, ap, ◌∙◌}
use Rattle.due_heap.specs.Heaps.{standing_at}
use Rattle.exchange_model.specs.Questions.{sent_of}
use Rattle.exchange_model.specs.declared.sent.Sent.{Sent}
use Rattle.outbox.specs.Numbering.{id_of}
use Rattle.outbox.specs.Submissions.{Submissions}
use Rattle.outbox.proofs.CountingLemmas.{counted_push}
use Rattle.outbox.proofs.FailingLemmas.{next_unwatched}
use Rattle.outbox.proofs.KeptLemmas.{no_room}
use Rattle.outbox.proofs.StandLemmas.{push_stands}
use Rattle.outbox.proofs.outbox.Outbox.push.Goals as goal

pub watch-requires-clause-new : goal.watch-requires-clause-new
watch-requires-clause-new c =
    let same : c.self.inside.sent.items ≡ c.args.self.now.sent = ap (λ (v : Submissions). v.sent) c.self.view_is in
    let next : c.args.sent.submission.number ≡ length c.self.inside.sent.items = c.requires.next ∙ ap length (sym same) in
    ap (λ n. standing_at n c.self.inside.failing) next ∙ next_unwatched c.self.inside.failing c.self.inside.sent.items c.self.invariant.2

pub invariant_of-self : goal.invariant_of-self
invariant_of-self c =
    let items : List Sent = c.self.inside.sent.items in
    let same : items ≡ c.args.self.now.sent = ap (λ (v : Submissions). v.sent) c.self.view_is in
    let next : c.args.sent.submission.number ≡ length items = c.requires.next ∙ ap length (sym same) in
    let room : c.self.inside.numbers.room ≡ Some (id_of c.args.sent) = ap (λ (v : Submissions). v.room) c.self.view_is ∙ c.requires.room in
    let new : sent_of (id_of c.args.sent) items ≡ None = ap (sent_of (id_of c.args.sent)) same ∙ c.requires.new in
    rw c.push_reserved.ensures.items (
      push_stands items c.args.sent next c.requires.dated c.self.invariant.0,
      c.take_room.ensures.more items c.args.sent c.self.invariant.1 room new,
      c.watch.ensures items (sym next) c.self.invariant.2,
      rw c.add.ensures (counted_push c.self.inside.counts items c.args.sent c.self.invariant.3),
      λ some. absurd (no_room c.take_room.new.self.room c.take_room.ensures.room some),
    )
