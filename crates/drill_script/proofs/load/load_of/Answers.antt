use Rattle.std.proofs.Common.{◌≡◌, Some, IsTrue, codes, IfSome, ap, sym, ◌∙◌, refl}
use Rattle.std.proofs.lemmas.Result.{IfOk-weaker}
use Rattle.std.proofs.lemmas.Option.{IfSome_then}
use Rattle.drill_script.specs.LineText.{load_text, is_load}
use Rattle.drill_script.specs.LineParts.{IsKeyed}
use Rattle.drill_script.specs.declared.line.ScriptLoad.{ScriptLoad}
use Rattle.drill_script.proofs.LoadLemmas.{none_text, keyed_text, text_keyed, uncut_load, none_only}
use Rattle.drill_script.proofs.WordLemmas.{equal_is_same, unequal_differ}
use Rattle.drill_script.proofs.load.load_of.Goals as goal

pub returns-then-eq-clause-found : goal.returns-then-eq-clause-found
returns-then-eq-clause-found c =
    let none : c.args.word.now ≡ codes "none" = equal_is_same c.args.word.now c.as_slice.result.now c.eq.result c.eq.ensures c.if-eq.true ∙ c.as_slice.ensures in (none ∙ sym none_text, refl)

pub returns-then-eq-clause-only : goal.returns-then-eq-clause-only
returns-then-eq-clause-only c load is small =
    let none : c.args.word.now ≡ codes "none" = equal_is_same c.args.word.now c.as_slice.result.now c.eq.result c.eq.ensures c.if-eq.true ∙ c.as_slice.ensures in
    ap Some (none_only c.args.word.now load none is)

pub returns-in_default-clause-only : goal.returns-in_default-clause-only
returns-in_default-clause-only c load is small =
    absurd (uncut_load c.args.word.now load c.in_default.ensures.none (λ (none : c.args.word.now ≡ codes "none"). unequal_differ c.args.word.now c.as_slice.result.now c.eq.result c.eq.ensures c.if-eq.false (none ∙ sym c.as_slice.ensures)) is)

pub returns-clause-found : goal.returns-clause-found
returns-clause-found c =
    let text : (load : ScriptLoad) → IsKeyed c.in-Some.key.now c.in-Some.value.now load → (c.args.word.now ≡ load_text load) × IsTrue (is_load load) = λ load keyed. keyed_text c.args.word.now c.in-Some.key.now c.in-Some.value.now load c.in-Some.ensures.found keyed in
    IfOk-weaker c.keyed_of.result (λ read. IfSome read (IsKeyed c.in-Some.key.now c.in-Some.value.now)) (λ read. IfSome read (λ load. (c.args.word.now ≡ load_text load) × IsTrue (is_load load)))
    (λ read keyed. IfSome_then read keyed text)
    c.keyed_of.ensures.found

pub returns-clause-only : goal.returns-clause-only
returns-clause-only c load is small =
    c.keyed_of.ensures.only load (text_keyed c.args.word.now c.in-Some.key.now c.in-Some.value.now load c.in-Some.ensures.found c.in-Some.ensures.first (λ (none : c.args.word.now ≡ codes "none"). unequal_differ c.args.word.now c.as_slice.result.now c.eq.result c.eq.ensures c.if-eq.false (none ∙ sym c.as_slice.ensures)) is small)
