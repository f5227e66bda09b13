-- The first parameter of a name, as a loop finds it.
use Rattle.std.proofs.Common.{◌≡◌, ℕ, suc, ◌+◌, ◌<◌, ◌≤◌, true, false, List, ◌||◌, length, get_or, drop, map, Some, None, not, refl, ◌∙◌, arith, drop-cons}
use Rattle.std.specs.Prelude.{codes}
use Rattle.std.specs.List.{list_all}
use Rattle.std.proofs.lemmas.List.Folds.{list_all-map, list_all_at}
use Rattle.std.proofs.Math.ListN.{drop_of_length-le}
use Rattle.mime_fields.specs.Lent.{parameter_of, value_meant_by}
use Rattle.mime_fields.specs.declared.media_type.Parameter.{Parameter}
use Rattle.mime_fields.specs.MediaTypes.{is_named}
use Rattle.mime_package.specs.Reading.{parameter, is_charset}

-- the next parameter has the name
pub named_here : (name : List ℕ) (xs : List Parameter) (k : ℕ) (d : Parameter) → k < length xs → is_named name (parameter_of (get_or xs k d)) ≡ true
    → parameter name (map parameter_of (drop k xs)) ≡ Some (value_meant_by (get_or xs k d).value)
unfolding parameter
named_here name xs k d within is = rw (drop-cons xs k d, is) refl

-- the next parameter has another name
pub named_further : (name : List ℕ) (xs : List Parameter) (k : ℕ) (d : Parameter) → k < length xs → is_named name (parameter_of (get_or xs k d)) ≡ false
    → parameter name (map parameter_of (drop k xs)) ≡ parameter name (map parameter_of (drop (k + 1) xs))
unfolding parameter
named_further name xs k d within is =
    let next : k + 1 ≡ suc k = omega arith in
    rw (next, drop-cons xs k d, is) refl

-- no parameter remains
pub named_nowhere : (name : List ℕ) (xs : List Parameter) (k : ℕ) → length xs ≤ k → parameter name (map parameter_of (drop k xs)) ≡ None
unfolding parameter
named_nowhere name xs k over = rw (drop_of_length-le xs over) refl

-- a parameter names a character set that isn't supported
pub charset_fails : (xs : List Parameter) (k : ℕ) (d : Parameter) → k < length xs → is_named (codes "charset") (parameter_of (get_or xs k d)) ≡ true → is_charset (parameter_of (get_or xs k d)).value ≡ false
    → list_all (λ p. not (is_named (codes "charset") p) || is_charset p.value) (map parameter_of xs) ≡ false
charset_fails xs k d within is fails =
    let here : (not (is_named (codes "charset") (parameter_of (get_or xs k d))) || is_charset (parameter_of (get_or xs k d)).value) ≡ false = rw (is, fails) refl in
    list_all-map _ parameter_of xs ∙ list_all_at (λ p. not (is_named (codes "charset") (parameter_of p)) || is_charset (parameter_of p).value) xs k d within here
