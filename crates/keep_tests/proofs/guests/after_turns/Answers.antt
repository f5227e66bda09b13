use Rattle.std.proofs.Common.{◌∙◌, []}
use Rattle.std.proofs.lemmas.List.Elements.{All-cons, All-nil}
use Rattle.workers.specs.Turns.{IsReady}
use Rattle.keep_tests.proofs.guests.after_turns.Goals as goal

pub serve_kept-requires-clause-ready : goal.serve_kept-requires-clause-ready
serve_kept-requires-clause-ready g c lifetimes bounds =
    let made = c.in-Ok.ensures.worker in
    All-cons (λ w. IsReady g.J.Opening.book w) c.in-Ok.worker [] (record { here = made.0 ∙ c.requires.pass.0; fresh = made.1 })
    (All-nil (λ w. IsReady g.J.Opening.book w))
