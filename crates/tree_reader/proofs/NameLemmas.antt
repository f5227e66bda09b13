-- Names as written.
use Rattle.std.proofs.Common.{◌≡◌, ℕ, ◌<◌, Bool, List, [], ◌∷◌, true, false, not, ◌&&◌, refl, sym, ◌∙◌}
use Rattle.std.proofs.lemmas.Bool.{and_parts, false_from_ne_true, ltb-true}
use Rattle.std.proofs.lemmas.List.Elements.{All-nil, All-cons}
use Rattle.std.proofs.lemmas.Str.Ascii.{IsAscii-from_all}
use Rattle.std.proofs.lemmas.Str.{is_utf8-from_IsUtf8, IsUtf8-from_is_utf8, IsUtf8-from_ascii}
use Rattle.std.specs.Prelude.{IsUtf8, nat_lt, slice_index}
use Rattle.std.specs.List.{All, list_all, list_any}
use Rattle.std.specs.Str.{is_utf8}
use Rattle.tree_reader.specs.Names.{is_colon, is_simple, is_name_start, is_local_name}

pub utf8_is : (bytes : List ℕ) → IsUtf8 bytes → true ≡ is_utf8 bytes
utf8_is bytes is = sym (is_utf8-from_IsUtf8 bytes is)

pub utf8_isnt : (bytes : List ℕ) → ¬ (IsUtf8 bytes) → false ≡ is_utf8 bytes
utf8_isnt bytes isnt = sym (false_from_ne_true (is_utf8 bytes) (λ is. isnt (IsUtf8-from_is_utf8 bytes is)))

and_true : (b : Bool) → (b && true && true) ≡ b
and_true true = refl
and_true false = refl

not_true : (b : Bool) → not b ≡ true → b ≡ false
not_true true is = absurd cc
not_true false is = refl

simple_low : (name : List ℕ) → list_all is_simple name ≡ true → All (λ b. b < 128) name
simple_low [] all = All-nil (λ b. b < 128)
simple_low (b ∷ name) all =
    let split = and_parts (is_simple b) (list_all is_simple name) all in
    let here = and_parts (nat_lt b 128) (not (is_colon b)) split.0 in
    All-cons (λ c. c < 128) b name (ltb-true b 128 here.0) (simple_low name split.1)

simple_colonless : (name : List ℕ) → list_all is_simple name ≡ true → list_any is_colon name ≡ false
simple_colonless [] all = refl
simple_colonless (b ∷ name) all =
    let split = and_parts (is_simple b) (list_all is_simple name) all in
    let here = and_parts (nat_lt b 128) (not (is_colon b)) split.0 in
    rw (not_true (is_colon b) here.1, simple_colonless name split.1) refl

-- bytes of ASCII without a colon
pub simple_local : (name : List ℕ) (first : ℕ) (starts : Bool) → starts ≡ is_name_start first → first ≡ slice_index name 0 → list_all is_simple name ≡ true → starts ≡ is_local_name name
unfolding is_local_name
simple_local name first starts test is all =
    let utf8 : is_utf8 name ≡ true = is_utf8-from_IsUtf8 name (IsUtf8-from_ascii name (IsAscii-from_all name (simple_low name all))) in
    rw (simple_colonless name all, utf8) (rw (← is) (test ∙ sym (and_true (is_name_start first))))
