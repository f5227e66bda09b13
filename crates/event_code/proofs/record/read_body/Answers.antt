use Rattle.std.proofs.Common.{◌∙◌, length, sym, ap, subst, arith}
use Rattle.std.proofs.lemmas.Bool.{iff_false, eqb-true, eq-eqb, false≢true}
use Rattle.as4_effects.specs.Effects.{effects_body}
use Rattle.std.proofs.lemmas.Result.{err_from_is_err_and}
use Rattle.event_code.proofs.Passing.{passed}
use Rattle.event_code.proofs.RecordReading.{IsNoBody, no_count, wrong_count, no_items, bytes_behind, whole_body}
use Rattle.event_code.proofs.record.read_body.Goals as goal

pub returns-in_err-count-clause-not_body : goal.returns-in_err-count-clause-not_body
returns-in_err-count-clause-not_body c = λ _.
    subst IsNoBody c.of-rest.ensures (no_count c.of-rest.result c.in_err-count.ensures.short)

pub returns-then-not-may_count-clause-not_body : goal.returns-then-not-may_count-clause-not_body
returns-then-not-may_count-clause-not_body c = λ _.
    let count = c.in_ok-count.ensures.found in
    subst IsNoBody c.of-rest.ensures
    (wrong_count c.of-rest.result c.take_number.new.self c.in_ok-count.count count.0 count.1 (iff_false c.may_count.ensures c.if-not-may_count.true))

pub returns-in_err-effects-clause-not_body : goal.returns-in_err-effects-clause-not_body
returns-in_err-effects-clause-not_body c = λ is.
    let count = c.in_ok-count.ensures.found in
    subst IsNoBody c.of-rest.ensures
    (no_items c.of-rest.result c.take_number.new.self c.in_ok-count.count count.0 count.1 (c.in_err-effects.ensures.not_body (passed _ _ (err_from_is_err_and c.from_residual-in_err-effects.result c.from_residual-in_err-effects.ensures.1) is)))

pub returns-then-not-is_empty-clause-not_body : goal.returns-then-not-is_empty-clause-not_body
returns-then-not-is_empty-clause-not_body c = λ _.
    let count = c.in_ok-count.ensures.found in
    let items = c.in_ok-effects.ensures.found in
    subst IsNoBody c.of-rest.ensures
    (bytes_behind c.once.ensures c.of-rest.result c.take_number.new.self c.read_items.new.rest c.in_ok-count.count c.in_ok-effects.effects.items count.0 count.1 items.0 items.1 items.2
    (λ none. false≢true (sym c.if-not-is_empty.true ∙ (c.is_empty.ensures ∙ eq-eqb (length c.read_items.new.rest) 0 none))))

pub returns-clause-found : goal.returns-clause-found
returns-clause-found c =
    let count = c.in_ok-count.ensures.found in
    let items = c.in_ok-effects.ensures.found in
    let made = c.of.ensures in
    let counts = c.may_count.ensures.0 c.if-not-may_count.false in
    let done = eqb-true (length c.read_items.new.rest) 0 (sym c.is_empty.ensures ∙ c.if-not-is_empty.false) in (
      sym c.of-rest.ensures
          ∙ (whole_body c.of-rest.result c.take_number.new.self c.read_items.new.rest c.in_ok-count.count c.in_ok-effects.effects.items count.1 items.0 items.2 done
          ∙ ap effects_body (sym made)),
      omega (arith, counts.0, items.0, ap length made),
      omega (arith, counts.1, items.0, ap length made),
    )
