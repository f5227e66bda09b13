-- The bytes of identifiers, Content-IDs and references.
use Rattle.std.proofs.Common.{◌≡◌, ◌≢◌, ℕ, ◌+◌, ◌^◌, ◌<◌, ◌≤◌, List, [], ◌∷◌, ◌++◌, Bool, true, false, if◌then◌else◌, length, get_or, length-append, arith, refl}
use Rattle.std.specs.Prelude.{IsTrue, codes, slice_index}
use Rattle.std.specs.Int.{w128, to_be_bytes, IsInRange}
use Rattle.std.specs.List.{All, list_all}
use Rattle.std.specs.Fmt.{decimal}
use Rattle.std.specs.Str.Parse.{AllDigits}
use Rattle.std.proofs.lemmas.Bool.Decides.{nat_tests}
use Rattle.std.proofs.lemmas.List.Elements.{All-append, All-nil, All-cons}
use Rattle.std.proofs.lemmas.List.{append_cancel_right}
use Rattle.std.proofs.lemmas.List.Sums.{AllPass-from_list_all}
use Rattle.std.proofs.lemmas.Fmt.{decimal_is_IsNumeral, decimal_injective, length-decimal-le}
use Rattle.std.proofs.lemmas.Str.Parse.{digit_from_value}
use Rattle.uuid.specs.Text.{lower, hex_digit, nibble, digit_place, is_hyphen_place}
use Rattle.uuid.proofs.TextLemmas.{by_index_at, nibble_small}
use Rattle.as4_values.proofs.IdentifierLemmas.{length-uuid_text}
use Rattle.as4_values.specs.Identifiers.{uuid_text, submission_id}
use Rattle.as4_values.specs.Payload.{IsContentId}
use Rattle.as4_values.specs.PlainTexts.{IsPlainText, allows_at}
use Rattle.as4_values.specs.Word.{allows}
use Rattle.as4_values.specs.declared.word.Word.TheVariants.{Identifier}
use Rattle.submissions.specs.Names.{IsStemByte, is_stem_byte, IsStem, cid_at}

literal_of_stem_bytes : (bytes : List ℕ) → list_all is_stem_byte bytes ≡ true → All IsStemByte bytes
literal_of_stem_bytes bytes holds k d within = AllPass-from_list_all is_stem_byte bytes holds k d within

hex_digit_is_stem_byte : (d : ℕ) → d < 16 → IsStemByte (hex_digit lower d)
hex_digit_is_stem_byte d small = grind (arith, nat_tests)

either_is_stem_byte : (hyphen : Bool) (d : ℕ) → d < 16 → IsStemByte (if hyphen then 45 else hex_digit lower d)
either_is_stem_byte true d small = refl
either_is_stem_byte false d small = hex_digit_is_stem_byte d small

uuid_text_of_stem_bytes : (nonce : ℕ) → All IsStemByte (uuid_text nonce)
unfolding uuid_text
uuid_text_of_stem_bytes nonce k d within =
    let bytes : List ℕ = to_be_bytes w128 nonce in
    let below : k < 36 = rw (length-uuid_text nonce) at within in
    rw (by_index_at 36 (λ j. if is_hyphen_place j then 45 else hex_digit lower (nibble bytes (digit_place j))) k d below)
    (either_is_stem_byte (is_hyphen_place k) (nibble bytes (digit_place k)) (nibble_small bytes (digit_place k)))

digit_is_stem_byte : (c : ℕ) → IsInRange 48 57 c → IsStemByte c
digit_is_stem_byte c digit = grind (arith, nat_tests)

digits_are_stem_bytes : (bytes : List ℕ) → AllDigits 10 bytes → All IsStemByte bytes
digits_are_stem_bytes [] digits = All-nil IsStemByte
digits_are_stem_bytes (c ∷ cs) digits =
    All-cons IsStemByte c cs (digit_is_stem_byte c (digit_from_value c digits.0)) (digits_are_stem_bytes cs digits.1)

decimal_of_stem_bytes : (n : ℕ) → n < 2 ^ 64 → All IsStemByte (decimal n)
decimal_of_stem_bytes n fits = digits_are_stem_bytes (decimal n) (decimal_is_IsNumeral n fits).0.1

-- the identifier of a submission is short and needs no escape
pub submission_id_is_stem : (number nonce : ℕ) → number < 2 ^ 64 → IsStem (submission_id number nonce)
submission_id_is_stem number nonce fits =
    let digits : length (decimal number) ≤ 20 = length-decimal-le 20 number (omega arith) (omega arith) fits in
    record {
      limited = simp length-append (omega (arith, length-uuid_text nonce));
      each = All-append IsStemByte (decimal number ++ codes "." ++ uuid_text nonce) (codes "@as4")
          (All-append IsStemByte (decimal number ++ codes ".") (uuid_text nonce)
          (All-append IsStemByte (decimal number) (codes ".") (decimal_of_stem_bytes number fits) (literal_of_stem_bytes (codes ".") refl))
          (uuid_text_of_stem_bytes nonce))
          (literal_of_stem_bytes (codes "@as4") refl);
    }

-- the properties of a Content-ID
pub record IsName (cid : List ℕ) : Type 0 where
  pub some : 0 < length cid
  pub limited : length cid ≤ 82
  pub each : All IsStemByte cid

pub cid_is_name : (id : List ℕ) (k : ℕ) → IsStem id → k < 64 → IsName (cid_at id k)
unfolding cid_at
cid_is_name id k stem below =
    let fits : k + 1 < 2 ^ 64 = omega arith in
    let digits : length (decimal (k + 1)) ≤ 20 = length-decimal-le 20 (k + 1) (omega arith) (omega arith) fits in
    let short : length id ≤ 61 = stem.limited in
    record {
      some = simp length-append (omega arith);
      limited = simp length-append (omega arith);
      each = All-append IsStemByte (decimal (k + 1) ++ codes ".") id
          (All-append IsStemByte (decimal (k + 1)) (codes ".") (decimal_of_stem_bytes (k + 1) fits) (literal_of_stem_bytes (codes ".") refl))
          stem.each;
    }

stem_byte_is_allowed : (b : ℕ) → IsStemByte b → IsTrue (allows Identifier b)
stem_byte_is_allowed b name = grind (arith, nat_tests)

pub cid_is_content_id : (id : List ℕ) (k : ℕ) → IsStem id → k < 64 → IsContentId (cid_at id k)
cid_is_content_id id k stem below =
    let name = cid_is_name id k stem below in
    let short : length (cid_at id k) ≤ 82 = name.limited in
    record { some = name.some; limited = omega arith; each = λ j d _ within. stem_byte_is_allowed (get_or (cid_at id k) j d) (name.each j d within) }

stem_byte_is_plain : (bytes : List ℕ) (at : ℕ) → IsStemByte (slice_index bytes at) → IsTrue (allows_at bytes at)
stem_byte_is_plain bytes at name = grind (arith, nat_tests)

-- a reference is a plain text
pub href_is_plain : (id : List ℕ) (k : ℕ) → IsStem id → k < 64 → IsPlainText (codes "cid:" ++ cid_at id k)
href_is_plain id k stem below =
    let name = cid_is_name id k stem below in
    let short : length (cid_at id k) ≤ 82 = name.limited in
    let each : All IsStemByte (codes "cid:" ++ cid_at id k) =
    All-append IsStemByte (codes "cid:") (cid_at id k) (literal_of_stem_bytes (codes "cid:") refl) name.each in
    record {
      some = omega arith;
      limited = omega arith;
      each = λ at within. stem_byte_is_plain (codes "cid:" ++ cid_at id k) at (each at 0 within);
    }

-- the Content-IDs of two places differ
pub cids_differ : (id : List ℕ) (j k : ℕ) → j < 64 → k < 64 → j < k → cid_at id j ≢ cid_at id k
unfolding cid_at
cids_differ id j k small other less same =
    let digits : decimal (j + 1) ≡ decimal (k + 1) =
    append_cancel_right (decimal (j + 1)) (decimal (k + 1)) (codes ".")
    (append_cancel_right (decimal (j + 1) ++ codes ".") (decimal (k + 1) ++ codes ".") id same) in
    let equal : j + 1 ≡ k + 1 = decimal_injective (j + 1) (k + 1) (omega arith) (omega arith) digits in
    absurd (omega arith)
