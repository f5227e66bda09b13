-- The values of the known fields of a part.
use Rattle.std.proofs.Common.{◌≡◌, ℕ, ◌+◌, ◌-◌, ◌<◌, ◌≤◌, Bool, true, false, cond, List, length, take, drop, Some, None, refl, ap, arith, length-take, length-drop, ltb, leb}
use Rattle.std.specs.Prelude.{◌↔◌, IsTrue, ◌&&◌, codes}
use Rattle.std.specs.List.{list_all}
use Rattle.std.specs.Char.{to_ascii_lowercase}
use Rattle.std.specs.Str.{str_to_ascii_lowercase, str_eq_ignore_ascii_case}
use Rattle.std.proofs.lemmas.Bool.{and_parts, false_from_ne_true, ltb-true, leb-true, lt-ltb, le-leb}
use Rattle.std.proofs.lemmas.Bool.Decides.{nat_tests, same_from_decides}
use Rattle.std.proofs.lemmas.List.{length-map}
use Rattle.std.proofs.lemmas.List.Sums.{AllPass-from_list_all, list_all-from_AllPass}
use Rattle.std.proofs.lemmas.List.Elements.{All-from_all_within}
use Rattle.std.proofs.lemmas.Slice.Eq.{bytes_eq-Decides}
use Rattle.as4_values.specs.Word.{IsWord, allows}
use Rattle.as4_values.specs.declared.word.Word.TheVariants.{Identifier}
use Rattle.mime_fields.specs.Fields.{without_brackets, is_word, content_id, id_of, media_of, is_identity}

long_value : (value : List ℕ) → None ≡ media_of (Some value) → 1024 < length value
long_value value long = grind (arith, nat_tests)

-- ---- identifiers

word_is : (bytes : List ℕ) → is_word bytes ≡ true → IsWord Identifier bytes
unfolding is_word
word_is bytes is =
    let some = and_parts (ltb 0 (length bytes)) (leb (length bytes) 255 && list_all (allows Identifier) bytes) is in
    let limited = and_parts (leb (length bytes) 255) (list_all (allows Identifier) bytes) some.1 in
    record {
      some = ltb-true 0 (length bytes) some.0;
      limited = leb-true (length bytes) 255 limited.0;
      each = λ k d low within. AllPass-from_list_all (allows Identifier) bytes limited.1 k d within;
    }

is_word_of : (bytes : List ℕ) → IsWord Identifier bytes → is_word bytes ≡ true
unfolding is_word
is_word_of bytes is =
    let each = list_all-from_AllPass (allows Identifier) bytes (All-from_all_within (λ b. IsTrue (allows Identifier b)) bytes is.each) in
    rw (lt-ltb 0 (length bytes) is.some, le-leb (length bytes) 255 is.limited, each) refl

-- a test that decides identifiers is the definition's test
pub tells_word : (r : Bool) (bytes : List ℕ) → (IsTrue r ↔ IsWord Identifier bytes) → r ≡ is_word bytes
tells_word r bytes told = same_from_decides {P = IsWord Identifier bytes} r (is_word bytes) told (word_is bytes, is_word_of bytes)

-- ---- values that are too long

bare_len : (value : List ℕ) (b : Bool) → length value ≤ length (cond b (take (length value - 2) (drop 1 value)) value) + 2
bare_len value true = omega (arith, length-take (length value - 2) (drop 1 value), length-drop 1 value)
bare_len value false = omega arith

pub long_id : (value : List ℕ) → None ≡ media_of (Some value) → None ≡ id_of (Some value)
unfolding content_id
long_id value long =
    let len : length value ≤ length (without_brackets value) + 2 = bare_len value _ in
    let none : is_word (without_brackets value) ≡ false = false_from_ne_true (is_word (without_brackets value)) (λ is. absurd (omega (arith, long_value value long, (word_is (without_brackets value) is).limited))) in
    rw none refl

no_long_word : (value word : List ℕ) → length word ≤ 1024 → 1024 < length value → str_eq_ignore_ascii_case value word ≡ false
no_long_word value word short long =
    false_from_ne_true (str_eq_ignore_ascii_case value word) λ is.
    let same : str_to_ascii_lowercase value ≡ str_to_ascii_lowercase word = (bytes_eq-Decides (str_to_ascii_lowercase value) (str_to_ascii_lowercase word)).0 is in
    absurd (omega (arith, ap length same, length-map value to_ascii_lowercase, length-map word to_ascii_lowercase))

pub long_encoding : (value : List ℕ) → None ≡ media_of (Some value) → false ≡ is_identity (Some value)
long_encoding value long =
    let len = long_value value long in
    rw (no_long_word value (codes "7bit") (omega arith) len, no_long_word value (codes "8bit") (omega arith) len, no_long_word value (codes "binary") (omega arith) len) refl
