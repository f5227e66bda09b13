use Rattle.std.proofs.Common.{◌≡◌, true, ◌∙◌}
use Rattle.std.specs.Fmt.{decimal}
use Rattle.drill_script.specs.Lacking.{spaced}
use Rattle.drill_script.specs.LineText.{end_text, is_name}
use Rattle.drill_script.proofs.SpellLemmas.{pair_spells, pair_spelled, pair_again}
use Rattle.drill_script.proofs.reading.pair_of.Goals as goal

pub returns-in_default-name_and-clause-only : goal.returns-in_default-name_and-clause-only
returns-in_default-name_and-clause-only c line spells =
    let s = pair_spelled c.args.tail.now line spells in
    let cut = c.in-Some.ensures.only s.0 (spaced s.1 (decimal s.2)) s.3.tail_is in
    absurd (c.in_default-name_and.ensures.only s.1 (decimal s.2) s.3.named cut.1)

pub returns-in_default-number_of-clause-only : goal.returns-in_default-number_of-clause-only
returns-in_default-number_of-clause-only c line spells =
    let s = pair_spelled c.args.tail.now line spells in
    let cut = c.in-Some.ensures.only s.0 (spaced s.1 (decimal s.2)) s.3.tail_is in
    let named = c.in-Some-name_and.ensures.only s.1 (decimal s.2) s.3.named cut.1 in
    cc (c.in_default-number_of.ensures.only s.2 s.3.small named.1)

pub returns-clause-found : goal.returns-clause-found
returns-clause-found c =
    let text : c.args.tail.now ≡ spaced (end_text c.in-Some.end) (spaced c.in_ok-mode.mode (decimal c.in-Some-number_of.number)) = cc (c.in-Some.ensures.found, c.in-Some-name_and.ensures.found, c.in_ok-mode.ensures, c.in-Some-number_of.ensures.found) in
    let named : is_name c.in_ok-mode.mode ≡ true = cc (c.in_ok-mode.ensures, c.in-Some-name_and.ensures.name) in
    pair_spells c.args.tail.now c.in-Some.end c.in_ok-mode.mode c.in-Some-number_of.number text named c.in-Some-number_of.ensures.range

pub returns-clause-only : goal.returns-clause-only
returns-clause-only c line spells =
    let s = pair_spelled c.args.tail.now line spells in
    let cut = c.in-Some.ensures.only s.0 (spaced s.1 (decimal s.2)) s.3.tail_is in
    let named = c.in-Some-name_and.ensures.only s.1 (decimal s.2) s.3.named cut.1 in
    let number : c.in-Some-number_of.number ≡ s.2 = cc (c.in-Some-number_of.ensures.only s.2 s.3.small named.1) in
    pair_again line s.0 c.in-Some.end s.1 c.in_ok-mode.mode s.2 c.in-Some-number_of.number s.3.line_is cut.0 (c.in_ok-mode.ensures ∙ named.0) number
