use Rattle.std.proofs.Common.{◌≡◌, false, true, sym, ◌∙◌, ap, List, ℕ, [], ◌∷◌}
use Rattle.std.specs.Option.{option_to_list, option_copied}
use Rattle.as4_http.proofs.FieldLemmas.{next_found, next_other, next_twice}
use Rattle.as4_http.specs.Fields.{is_name}
use Rattle.as4_http.proofs.fields.only_value.Goals as goal
use Rattle.as4_http.proofs.fields.only_value.Goals.{then-is_name+else-is_some, else-is_name}

pub returns-then-is_some-clause-twice : goal.returns-then-is_some-clause-twice
returns-then-is_some-clause-twice c =
    let same : is_name _ c.args.name.now ≡ true = ap (λ (l : List ℕ). is_name l c.args.name.now) (sym c.of.ensures) ∙ sym c.is_name.ensures ∙ c.if-is_name.true in
    next_twice c.args.name.now c.args.buf.now c.args.headers.now c.loop-header.header-index _ c.loop-header.only c.loop-header-test.true c.loop-header.invariant (sym c.is_some.ensures ∙ c.if-is_some.true) same

pub loop-header-preserved : goal.loop-header-preserved
loop-header-preserved c =
    elim c.if-is_name.branch [
      | then-is_name+else-is_some w ↦
          let same : is_name _ c.args.name.now ≡ true = ap (λ (l : List ℕ). is_name l c.args.name.now) (sym c.of.ensures) ∙ sym c.is_name.ensures ∙ w.if-is_name.true in
          next_found c.args.name.now c.args.buf.now c.args.headers.now c.loop-header.header-index _ c.loop-header.only c.loop-header-test.true c.loop-header.invariant (sym w.is_some.ensures ∙ w.if-is_some.false) same
          ∙ ap (λ (l : List ℕ). l ∷ []) (sym w.of-then-is_name.ensures) ∙ ap (λ o. option_to_list (option_copied o)) (sym w.only-is)
      | else-is_name w ↦
          let other : is_name _ c.args.name.now ≡ false = ap (λ (l : List ℕ). is_name l c.args.name.now) (sym c.of.ensures) ∙ sym c.is_name.ensures ∙ w.if-is_name.false in
          next_other c.args.name.now c.args.buf.now c.args.headers.now c.loop-header.header-index _ c.loop-header-test.true other ∙ c.loop-header.invariant ∙ ap (λ o. option_to_list (option_copied o)) (sym w.only-is)
    ]
