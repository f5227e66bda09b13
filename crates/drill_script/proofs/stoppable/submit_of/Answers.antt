use Rattle.std.proofs.Common.{◌≡◌, true, Some, ◌∙◌}
use Rattle.drill_script.specs.Lacking.{spaced}
use Rattle.drill_script.specs.LineText.{end_text, load_text, is_name}
use Rattle.drill_script.proofs.SpellLemmas.{submit_spells, submit_spelled, submit_again}
use Rattle.drill_script.proofs.stoppable.submit_of.Goals as goal

pub returns-in_default-name_and-clause-only : goal.returns-in_default-name_and-clause-only
returns-in_default-name_and-clause-only c line spells =
    let s = submit_spelled c.args.tail.now line spells in
    let cut = c.in-Some.ensures.only s.0 (spaced s.1 (load_text s.2)) s.3.tail_is in
    absurd (c.in_default-name_and.ensures.only s.1 (load_text s.2) s.3.named cut.1)

pub returns-in_default-2-clause-only : goal.returns-in_default-2-clause-only
returns-in_default-2-clause-only c line spells =
    let s = submit_spelled c.args.tail.now line spells in
    let cut = c.in-Some.ensures.only s.0 (spaced s.1 (load_text s.2)) s.3.tail_is in
    let named = c.in-Some-name_and.ensures.only s.1 (load_text s.2) s.3.named cut.1 in
    cc (c.in_ok-load.ensures.only s.2 named.1 s.3.loaded, c.in_default-2.is)

pub returns-clause-found : goal.returns-clause-found
returns-clause-found c =
    let loaded = rw c.in-Some-2.is at c.in_ok-load.ensures.found in
    let text : c.args.tail.now ≡ spaced (end_text c.in-Some.end) (spaced c.in_ok-mode.mode (load_text c.in-Some-2.load)) = cc (c.in-Some.ensures.found, c.in-Some-name_and.ensures.found, c.in_ok-mode.ensures, loaded.0) in
    let named : is_name c.in_ok-mode.mode ≡ true = cc (c.in_ok-mode.ensures, c.in-Some-name_and.ensures.name) in
    submit_spells c.args.tail.now c.in-Some.end c.in_ok-mode.mode c.in-Some-2.load text named loaded.1

pub returns-clause-only : goal.returns-clause-only
returns-clause-only c line spells =
    let s = submit_spelled c.args.tail.now line spells in
    let cut = c.in-Some.ensures.only s.0 (spaced s.1 (load_text s.2)) s.3.tail_is in
    let named = c.in-Some-name_and.ensures.only s.1 (load_text s.2) s.3.named cut.1 in
    let load : Some c.in-Some-2.load ≡ Some s.2 = cc (c.in_ok-load.ensures.only s.2 named.1 s.3.loaded, c.in-Some-2.is) in
    submit_again line s.0 c.in-Some.end s.1 c.in_ok-mode.mode s.2 c.in-Some-2.load s.3.line_is cut.0 (c.in_ok-mode.ensures ∙ named.0) load
