use Rattle.std.proofs.Common.{◌≡◌, None, Some, refl, sym, ap, ◌∙◌, arith}
use Rattle.std.specs.Prelude.{IsTrue}
use Rattle.exchange_model.specs.Questions.{is_pending, is_pending_mark}
use Rattle.outbox.specs.Failing.{watched}
use Rattle.outbox.proofs.FailingLemmas.{watches_push, not_pending, watched_pending, watched_settled}
use Rattle.outbox.proofs.failing.watch.Goals as goal

pub returns-in-Pending : goal.returns-in-Pending
returns-in-Pending c = λ before next are.
    let pending : IsTrue (is_pending c.args.sent.now) = ap is_pending_mark c.in-Pending.is in
    let some = (c.requires.room c.args.sent.now.submission.numbered).0 in
    let is : watched (Some c.args.sent.now) ≡ Some (record { heap = 0; due = c.fails_at.result }) =
    watched_pending c.args.sent.now pending ∙ ap (λ d. Some (record { heap = 0; due = d })) (sym c.fails_at.ensures) in
    watches_push c.args.failing.now c.insert.new.self before c.args.sent.now next (omega (arith, some, c.insert.ensures.placed.count)) are
    (record { count = c.insert.ensures.placed.count; here = c.insert.ensures.placed.here ∙ sym is; others = c.insert.ensures.placed.others })

pub returns-in_default : goal.returns-in_default
returns-in_default c = λ before next are.
    let some = (c.requires.room c.args.sent.now.submission.numbered).0 in
    let none : watched (Some c.args.sent.now) ≡ None = watched_settled c.args.sent.now (not_pending c.args.sent.now.mark c.in_default.not-Pending) in
    watches_push c.args.failing.now c.args.failing.now before c.args.sent.now next some are
    (record { count = refl; here = c.requires.new ∙ sym none; others = λ n other. refl })
