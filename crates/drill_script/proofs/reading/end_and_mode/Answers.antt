use Rattle.std.proofs.Common.{◌≡◌, true}
use Rattle.drill_script.specs.Lacking.{spaced}
use Rattle.drill_script.specs.LineText.{end_text, is_name}
use Rattle.drill_script.proofs.reading.end_and_mode.Goals as goal

pub returns-then-not-may_name-clause-only : goal.returns-then-not-may_name-clause-only
returns-then-not-may_name-clause-only c end mode named is =
    let cut = c.in-Some.ensures.only end mode is in
    cc (named, cut.1, c.may_name.ensures)

pub returns-clause-found : goal.returns-clause-found
returns-clause-found c =
    let text : c.args.tail.now ≡ spaced (end_text c.in-Some.end) c.in_ok-mode.mode = cc (c.in-Some.ensures.found, c.in_ok-mode.ensures) in
    let named : is_name c.in_ok-mode.mode ≡ true = cc (c.in_ok-mode.ensures, c.may_name.ensures, c.if-not-may_name.false) in
    (text, named)
