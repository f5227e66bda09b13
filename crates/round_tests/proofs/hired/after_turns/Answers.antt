use Rattle.std.proofs.Common.{◌∙◌, []}
use Rattle.std.proofs.lemmas.List.Elements.{All-cons, All-nil}
use Rattle.workers.specs.Turns.{IsReady}
use Rattle.round_tests.proofs.hired.after_turns.Goals as goal

pub serve-requires-clause-ready : goal.serve-requires-clause-ready
serve-requires-clause-ready g c lifetimes bounds =
    let made = c.in_ok-hired.ensures.worker in
    All-cons (λ w. IsReady g.J.Opening.book w) c.in_ok-hired.field-0 [] (record { here = made.0 ∙ c.requires.pass.0; fresh = made.1 })
    (All-nil (λ w. IsReady g.J.Opening.book w))
