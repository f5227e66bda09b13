-- Lengths of concatenated bytes.
use Rattle.std.proofs.Common.{◌≡◌, ℕ, ◌+◌, ◌-◌, ◌^◌, ◌<◌, ◌≤◌, List, [], ◌∷◌, ◌++◌, length, take, get_or, arith, length-append, append-nil, refl, ◌∙◌, sym}
use Rattle.std.specs.Prelude.{min, nat_le}
use Rattle.std.proofs.lemmas.Bool.Decides.{nat_tests}
use Rattle.std.specs.List.{flat_map}
use Rattle.std.proofs.lemmas.List.{take_more, take_all}
use Rattle.std.proofs.lemmas.Grind.{flat_map-append}
pub use Rattle.byte_forms.proofs.NumberLemmas.{number_length}
use Rattle.as4_effects.specs.Bodies.{number_body, text_body, list_body}
use Rattle.as4_effects.specs.Lengths.{grown}
use Rattle.as4_effects.specs.Sound.{fits_an_effect, effect_limit}

pub grown_append : (sum : ℕ) (a b : List ℕ) → grown sum (a ++ b) ≡ grown (grown sum a) b
unfolding grown
grown_append sum a b = rw (length-append a b) (omega arith)

pub grown_cons : (sum b : ℕ) (bytes : List ℕ) → grown sum (b ∷ bytes) ≡ grown (min (sum + 1) (2 ^ 64 - 1)) bytes
unfolding grown
grown_cons sum b bytes = omega arith

pub grown_none : (sum : ℕ) → sum < 2 ^ 64 → grown sum [] ≡ sum
unfolding grown
grown_none sum fits = omega arith

pub grown_number : (sum places n : ℕ) → grown sum (number_body places n) ≡ min (sum + places) (2 ^ 64 - 1)
unfolding grown
grown_number sum places n = rw (number_length places n) refl

pub grown_bytes : (sum : ℕ) (bytes : List ℕ) → grown sum bytes ≡ min (sum + length bytes) (2 ^ 64 - 1)
unfolding grown
grown_bytes sum bytes = refl

pub grown_text : (sum : ℕ) (bytes : List ℕ) → grown sum (text_body bytes) ≡ min (sum + 4 + length bytes) (2 ^ 64 - 1)
unfolding grown text_body
grown_text sum bytes = rw (length-append (number_body 4 (length bytes)) bytes, number_length 4 (length bytes)) (omega arith)

pub grown_more : {X : Type 0} (f : X → List ℕ) (sum : ℕ) (xs : List X) (i : ℕ) (x : X) → i < length xs → x ≡ get_or xs i x
    → grown sum (flat_map f (take (i + 1) xs)) ≡ grown (grown sum (flat_map f (take i xs))) (f x)
grown_more f sum xs i x below is = rw (take_more xs i x below, ← is, flat_map-append, grown_append) (simp append-nil)

pub list_is_counted : {X : Type 0} (f : X → List ℕ) (sum start total i : ℕ) (items xs : List X) → items ≡ xs → length items ≤ i
    → start ≡ min (sum + 4) (2 ^ 64 - 1) → total ≡ grown start (flat_map f (take i items))
    → total ≡ grown sum (list_body f xs)
list_is_counted f sum start total i items xs same all e counted =
    counted ∙ rw (take_all i items all, same, e, ← grown_number sum 4 (length xs)) (sym (grown_append sum (number_body 4 (length xs)) (flat_map f xs)))

pub fits_by_length : (bytes : List ℕ) → fits_an_effect bytes ≡ nat_le (grown 0 bytes) effect_limit
unfolding grown fits_an_effect
fits_by_length bytes = grind (arith, nat_tests)
