use Rattle.std.proofs.Common.{◌≡◌, true, false, sym, ◌∙◌}
use Rattle.as4_audit.proofs.KindLemmas.{found_made, not_found}
use Rattle.as4_audit.proofs.made.event_that_makes.Goals as goal

pub returns-in-Ok-true-clause-found : goal.returns-in-Ok-true-clause-found
returns-in-Ok-true-clause-found c =
    let given = c.in-Ok-true.ensures.given in
    found_made c.args.modes.now c.args.core.now.end c.in-Some.event c.args.effects.now given.0 c.requires.reached c.requires.some
    (rw c.requires.same at given.1) (given.2.0 c.in-Ok-true.field-0-test)

pub returns-in-Ok-false-clause-found : goal.returns-in-Ok-false-clause-found
returns-in-Ok-false-clause-found c =
    let given = c.in-Ok-false.ensures.given in
    not_found c.args.modes.now c.args.core.now.end c.in-Some.event c.args.effects.now given.0 c.requires.some
    (rw c.requires.same at given.1)
    (λ is. let no : false ≡ true = sym c.in-Ok-false.field-0-test ∙ given.2.1 is in cc)
    (rw (c.items.ensures, c.in-Some.is) at c.in_ok-event.ensures)
