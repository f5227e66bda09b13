use Rattle.std.proofs.Common.{◌≡◌, true, ◌∙◌}
use Rattle.drill_script.specs.Lacking.{spaced}
use Rattle.drill_script.specs.LineText.{is_name}
use Rattle.drill_script.specs.LineParts.{linked_text, settings_text}
use Rattle.drill_script.proofs.SpellLemmas.{mode_spells, mode_spelled, mode_again}
use Rattle.drill_script.proofs.reading.mode_of.Goals as goal

pub returns-in_default-clause-only : goal.returns-in_default-clause-only
returns-in_default-clause-only c line spells =
    let s = mode_spelled c.args.tail.now line spells in
    absurd (c.in_default.ensures.only s.0 (linked_text s.1 (settings_text s.2 s.3 s.4)) s.5.named s.5.tail_is)

pub returns-in_default-linked_settings_of-clause-only : goal.returns-in_default-linked_settings_of-clause-only
returns-in_default-linked_settings_of-clause-only c line spells =
    let s = mode_spelled c.args.tail.now line spells in
    let cut = c.in-Some.ensures.only s.0 (linked_text s.1 (settings_text s.2 s.3 s.4)) s.5.named s.5.tail_is in
    cc (c.in_default-linked_settings_of.ensures.only s.1 s.2 s.3 s.4 s.5.few s.5.some s.5.short cut.1)

pub returns-clause-found : goal.returns-clause-found
returns-clause-found c =
    let link = c.in-Some-linked_settings_of.link in
    let way = c.in-Some-linked_settings_of.way in
    let retries = c.in-Some-linked_settings_of.retries in
    let period = c.in-Some-linked_settings_of.period in
    let range = c.in-Some-linked_settings_of.ensures.range in
    let text : c.args.tail.now ≡ spaced c.in_ok-name.name (linked_text link (settings_text way retries period)) = cc (c.in-Some.ensures.found, c.in_ok-name.ensures, c.in-Some-linked_settings_of.ensures.found) in
    let named : is_name c.in_ok-name.name ≡ true = cc (c.in_ok-name.ensures, c.in-Some.ensures.name) in
    mode_spells c.args.tail.now c.in_ok-name.name link way retries period text named range.0 range.1 range.2

pub returns-clause-only : goal.returns-clause-only
returns-clause-only c line spells =
    let s = mode_spelled c.args.tail.now line spells in
    let cut = c.in-Some.ensures.only s.0 (linked_text s.1 (settings_text s.2 s.3 s.4)) s.5.named s.5.tail_is in
    let found = c.in-Some-linked_settings_of in
    let settings = found.ensures.only s.1 s.2 s.3 s.4 s.5.few s.5.some s.5.short cut.1 in
    mode_again line s.0 c.in_ok-name.name s.1 found.link s.2 found.way s.3 s.4 found.retries found.period s.5.line_is (c.in_ok-name.ensures ∙ cut.0) settings
