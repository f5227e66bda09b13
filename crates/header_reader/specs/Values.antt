-- The values of a header, which blanks may surround in a document (XML 1.0, section 2.3).
use Rattle.std.specs.Prelude.{ℕ, zero, suc, ◌-◌, List, ◌++◌, Bool, false, ◌&&◌, ◌||◌, ◌==◌, nat_le, if◌then◌else◌, Option, Some, None, is_none, option_map, length, slice_index, codes, take, drop}
use Rattle.std.specs.Cmp.Lexicographic.{pointwise}
use Rattle.std.specs.List.{list_all, list_any, prefix_len}
use Rattle.as4_values.specs.Stamp.{fits_byte, fraction_form, zone_forms, wrong_field}
use Rattle.as4_values.specs.Texts.{text_limit, is_xml}
use Rattle.byte_forms.specs.Trimmed.{trimmed}
use Rattle.as4_values.specs.Word.{allows, limit_of}
use Rattle.as4_values.specs.declared.word.Word.{Word}
use Rattle.as4_values.specs.declared.word.Word.TheVariants.{Identifier, ErrorCode}

-- characters of XML, at least one and at most the limit
unfoldable pub is_text : List ℕ → Bool
is_text bytes = nat_le 1 (length bytes) && nat_le (length bytes) text_limit && is_xml bytes

-- a word of this kind
unfoldable pub is_word : Word → List ℕ → Bool
is_word word bytes = nat_le 1 (length bytes) && nat_le (length bytes) (limit_of word) && list_all (allows word) bytes

-- the text has this form of a stamp
abbrev pub has_form : List ℕ → List ℕ → Bool
has_form text form = length form == length text && pointwise fits_byte form text

-- one of the numbers below n passes
abbrev pub any_below : ℕ → (ℕ → Bool) → Bool
any_below zero test = false
any_below (suc n) test = test n || any_below n test

-- a stamp: it has one of the forms, with up to nine places after the seconds, and no field is out of range
unfoldable pub is_stamp : List ℕ → Bool
is_stamp text =
    list_any (λ zone. any_below 10 (λ places. has_form text (codes "0000-00-00T00:00:00" ++ fraction_form places ++ zone))) zone_forms
    && is_none (wrong_field text)

-- bytes are read as the bytes between the blanks, if these pass the test
unfoldable pub read_by : (List ℕ → Bool) → List ℕ → Option (List ℕ)
read_by test bytes = if test (trimmed bytes) then Some (trimmed bytes) else None

abbrev pub text_of : List ℕ → Option (List ℕ)
text_of = read_by is_text

abbrev pub id_of : List ℕ → Option (List ℕ)
id_of = read_by (is_word Identifier)

abbrev pub code_of : List ℕ → Option (List ℕ)
code_of = read_by (is_word ErrorCode)

abbrev pub stamp_of : List ℕ → Option (List ℕ)
stamp_of = read_by is_stamp

-- an optional value is also absent if there are only blanks
unfoldable pub optional : {X : Type 0} → (List ℕ → Option X) → List ℕ → Option (Option X)
optional reading bytes = if length (trimmed bytes) == 0 then Some None else option_map Some (reading bytes)
