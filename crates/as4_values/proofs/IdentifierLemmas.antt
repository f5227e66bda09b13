-- The identifiers that a handler makes are well-formed.
use Rattle.std.proofs.Common.{◌≡◌, ℕ, ◌^◌, ◌<◌, ◌≤◌, ◌++◌, List, [], ◌∷◌, Bool, true, false, if◌then◌else◌, length, arith, refl, ap, length-append, append_assoc, take, sym, ◌∙◌}
use Rattle.std.specs.Prelude.{IsTrue, codes}
use Rattle.std.specs.Int.{w128, to_be_bytes, IsInRange}
use Rattle.std.specs.List.{All, list_all}
use Rattle.std.specs.Fmt.{decimal}
use Rattle.std.specs.Str.Parse.{AllDigits}
use Rattle.std.proofs.lemmas.Bool.Decides.{nat_tests}
use Rattle.std.proofs.lemmas.List.Elements.{All-append, All-nil, All-cons}
use Rattle.std.proofs.lemmas.Fmt.{decimal_is_IsNumeral, decimal_injective, length-decimal-le}
use Rattle.std.proofs.lemmas.List.Sums.{AllPass-from_list_all}
use Rattle.std.proofs.lemmas.Str.Parse.{digit_from_value}
use Rattle.std.proofs.Math.Seq.{take-append_seam}
use Rattle.uuid.specs.Text.{lower, hex_digit, nibble, digit_place, is_hyphen_place}
use Rattle.uuid.proofs.TextLemmas.{by_index_length, by_index_at, nibble_small}
use Rattle.as4_values.specs.declared.word.Word.TheVariants.{Identifier}
use Rattle.as4_values.specs.Word.{IsWord, allows}
use Rattle.as4_values.specs.Identifiers.{uuid_text, signal_id, submission_id}

-- an identifier may contain the byte
abbrev pub IsAllowed : ℕ → Type 0
IsAllowed b = IsTrue (allows Identifier b)

hex_digit_is_allowed : (d : ℕ) → d < 16 → IsAllowed (hex_digit lower d)
hex_digit_is_allowed d small = grind (arith, nat_tests)

-- a hyphen or a digit
either_is_allowed : (b : Bool) (d : ℕ) → d < 16 → IsAllowed (if b then 45 else hex_digit lower d)
either_is_allowed true d small = refl
either_is_allowed false d small = hex_digit_is_allowed d small

pub length-uuid_text : (nonce : ℕ) → length (uuid_text nonce) ≡ 36
unfolding uuid_text
length-uuid_text nonce = by_index_length 36 _

uuid_text_is_allowed : (nonce : ℕ) → All IsAllowed (uuid_text nonce)
unfolding uuid_text
uuid_text_is_allowed nonce k d within =
    let bytes : List ℕ = to_be_bytes w128 nonce in
    let below : k < 36 = rw (length-uuid_text nonce) at within in
    rw (by_index_at 36 (λ j. if is_hyphen_place j then 45 else hex_digit lower (nibble bytes (digit_place j))) k d below)
    (either_is_allowed (is_hyphen_place k) (nibble bytes (digit_place k)) (nibble_small bytes (digit_place k)))

-- a word of allowed bytes
allowed_is_word : (bytes : List ℕ) → 0 < length bytes → length bytes ≤ 255 → All IsAllowed bytes → IsWord Identifier bytes
allowed_is_word bytes some limited each = record { some = some; limited = limited; each = λ k d _ within. each k d within }

-- a literal text
literal_is_allowed : (bytes : List ℕ) → list_all (allows Identifier) bytes ≡ true → All IsAllowed bytes
literal_is_allowed bytes holds k d within = AllPass-from_list_all (allows Identifier) bytes holds k d within

pub signal_id_is_word : (nonce : ℕ) → IsWord Identifier (signal_id nonce)
signal_id_is_word nonce =
    let len : length (signal_id nonce) ≡ 42 = omega (arith, length-append (uuid_text nonce) (codes "@as4"), length-uuid_text nonce) in
    allowed_is_word (signal_id nonce) (omega arith) (omega arith)
    (All-append IsAllowed (codes "s.") (uuid_text nonce ++ codes "@as4") (literal_is_allowed (codes "s.") refl)
    (All-append IsAllowed (uuid_text nonce) (codes "@as4") (uuid_text_is_allowed nonce) (literal_is_allowed (codes "@as4") refl)))

digit_is_allowed : (c : ℕ) → IsInRange 48 57 c → IsAllowed c
digit_is_allowed c digit = grind (arith, nat_tests)

digits_are_allowed : (bytes : List ℕ) → AllDigits 10 bytes → All IsAllowed bytes
digits_are_allowed [] digits = All-nil IsAllowed
digits_are_allowed (c ∷ cs) digits =
    All-cons IsAllowed c cs (digit_is_allowed c (digit_from_value c digits.0)) (digits_are_allowed cs digits.1)

pub submission_id_is_word : (number nonce : ℕ) → number < 2 ^ 64 → IsWord Identifier (submission_id number nonce)
submission_id_is_word number nonce fits =
    let tail : List ℕ = codes "." ++ uuid_text nonce ++ codes "@as4" in
    let joined : submission_id number nonce ≡ decimal number ++ tail = simp append_assoc in
    let digits : length (decimal number) ≤ 20 = length-decimal-le 20 number (omega arith) (omega arith) fits in
    let len : length tail ≡ 41 = omega (arith, length-append (uuid_text nonce) (codes "@as4"), length-uuid_text nonce) in
    let behind : All IsAllowed tail = All-append IsAllowed (codes ".") (uuid_text nonce ++ codes "@as4") (literal_is_allowed (codes ".") refl)
    (All-append IsAllowed (uuid_text nonce) (codes "@as4") (uuid_text_is_allowed nonce) (literal_is_allowed (codes "@as4") refl)) in
    rw joined
    (allowed_is_word (decimal number ++ tail) (omega (arith, length-append (decimal number) tail)) (omega (arith, length-append (decimal number) tail))
    (All-append IsAllowed (decimal number) tail (digits_are_allowed (decimal number) (decimal_is_IsNumeral number fits).0.1) behind))

-- the number precedes a text of 41 bytes
pub submission_number : (number other nonce another : ℕ) → number < 2 ^ 64 → other < 2 ^ 64
    → submission_id number nonce ≡ submission_id other another → number ≡ other
submission_number number other nonce another fits other_fits same =
    let first : List ℕ = codes "." ++ uuid_text nonce ++ codes "@as4" in
    let second : List ℕ = codes "." ++ uuid_text another ++ codes "@as4" in
    let joined : submission_id number nonce ≡ decimal number ++ first = simp append_assoc in
    let other_joined : submission_id other another ≡ decimal other ++ second = simp append_assoc in
    let both : decimal number ++ first ≡ decimal other ++ second = sym joined ∙ (same ∙ other_joined) in
    let first_len : length first ≡ 41 = omega (arith, length-append (uuid_text nonce) (codes "@as4"), length-uuid_text nonce) in
    let second_len : length second ≡ 41 = omega (arith, length-append (uuid_text another) (codes "@as4"), length-uuid_text another) in
    let len : length (decimal number) ≡ length (decimal other) =
    omega (arith, ap length both, length-append (decimal number) first, length-append (decimal other) second) in
    decimal_injective number other fits other_fits
    (sym (take-append_seam (decimal number) first)
    ∙ (ap (take (length (decimal number))) both ∙ (ap (λ k. take k (decimal other ++ second)) len ∙ take-append_seam (decimal other) second)))
