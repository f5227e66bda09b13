use Rattle.std.proofs.Common.{◌∙◌, ◌∷◌, []}
use Rattle.std.proofs.lemmas.List.Elements.{All-cons, All-nil}
use Rattle.workers.specs.Turns.{IsReady}
use Rattle.round_tests.proofs.together.shares.Goals as goal

pub serve-requires-clause-ready : goal.serve-requires-clause-ready
serve-requires-clause-ready g c lifetimes bounds =
    let first = c.in_ok-first.ensures.worker in
    let second = c.in_ok-second.ensures.worker in
    All-cons (λ w. IsReady g.J.Opening.book w) c.in_ok-first.first (c.in_ok-second.second ∷ [])
    (record { here = first.0 ∙ c.requires.pass.0; fresh = first.1 })
    (All-cons (λ w. IsReady g.J.Opening.book w) c.in_ok-second.second []
    (record { here = second.0 ∙ c.in_ok-first.ensures.book ∙ c.requires.pass.0; fresh = second.1 })
    (All-nil (λ w. IsReady g.J.Opening.book w)))
