use Rattle.std.proofs.Common.{◌≡◌, Some}
use Rattle.std.specs.Fmt.{decimal}
use Rattle.drill_script.specs.Lacking.{spaced}
use Rattle.drill_script.specs.LineText.{pick_text, stoppable_text}
use Rattle.drill_script.proofs.SpellLemmas.{stop_spells, stop_spelled, stop_again}
use Rattle.drill_script.proofs.reading.stop_of.Goals as goal

pub returns-in_default-clause-only : goal.returns-in_default-clause-only
returns-in_default-clause-only c line spells =
    let s = stop_spelled c.args.tail.now line spells in
    absurd (c.in_default.ensures.only s.0 (spaced (pick_text s.1) (stoppable_text s.2)) s.3.some s.3.few s.3.tail_is)

pub returns-in_default-pick_and-clause-only : goal.returns-in_default-pick_and-clause-only
returns-in_default-pick_and-clause-only c line spells =
    let s = stop_spelled c.args.tail.now line spells in
    let cut = c.in-Some.ensures.only s.0 (spaced (pick_text s.1) (stoppable_text s.2)) s.3.some s.3.few s.3.tail_is in
    absurd (c.in_default-pick_and.ensures.only s.1 (stoppable_text s.2) cut.1)

pub returns-in_default-2-clause-only : goal.returns-in_default-2-clause-only
returns-in_default-2-clause-only c line spells =
    let s = stop_spelled c.args.tail.now line spells in
    let cut = c.in-Some.ensures.only s.0 (spaced (pick_text s.1) (stoppable_text s.2)) s.3.some s.3.few s.3.tail_is in
    let picked = c.in-Some-pick_and.ensures.only s.1 (stoppable_text s.2) cut.1 in
    cc (c.in_ok-line.ensures.only s.2 picked.1 s.3.small, c.in_default-2.is)

pub returns-clause-found : goal.returns-clause-found
returns-clause-found c =
    let said = rw c.in-Some-2.is at c.in_ok-line.ensures.found in
    let text : c.args.tail.now ≡ spaced (decimal c.in-Some.call) (spaced (pick_text c.in-Some-pick_and.pick) (stoppable_text c.in-Some-2.line)) = cc (c.in-Some.ensures.found, c.in-Some-pick_and.ensures.found, said.0) in
    stop_spells c.args.tail.now c.in-Some.call c.in-Some-pick_and.pick c.in-Some-2.line text c.in-Some.ensures.range.0 c.in-Some.ensures.range.1 said.1

pub returns-clause-only : goal.returns-clause-only
returns-clause-only c line spells =
    let s = stop_spelled c.args.tail.now line spells in
    let cut = c.in-Some.ensures.only s.0 (spaced (pick_text s.1) (stoppable_text s.2)) s.3.some s.3.few s.3.tail_is in
    let picked = c.in-Some-pick_and.ensures.only s.1 (stoppable_text s.2) cut.1 in
    let run : Some c.in-Some-2.line ≡ Some s.2 = cc (c.in_ok-line.ensures.only s.2 picked.1 s.3.small, c.in-Some-2.is) in
    stop_again line s.0 c.in-Some.call s.1 c.in-Some-pick_and.pick s.2 c.in-Some-2.line s.3.line_is cut.0 picked.0 run
