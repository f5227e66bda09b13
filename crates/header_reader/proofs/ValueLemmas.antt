-- The bytes between blanks, and the tests of values.
use Rattle.std.proofs.Common.{◌≡◌, ℕ, zero, suc, ◌+◌, ◌-◌, ◌<◌, ◌≤◌, inl, inr, List, [], ◌∷◌, ◌++◌, Bool, true, false, length, take, drop, arith, refl, sym, ap, ◌∙◌}
use Rattle.std.specs.Prelude.{IsTrue, slice_index, Option, Some, None, is_none, nat_le, ◌&&◌, ◌||◌, ◌==◌, codes}
use Rattle.std.specs.List.{prefix_len, list_all, list_any, Contains}
use Rattle.std.proofs.lemmas.Bool.{cases_Bool, cases_lt, and_parts, or_cases, leb-true, le-leb, eq-eqb, eqb-true, false≢true}
use Rattle.std.proofs.lemmas.List.{get_or_default}
use Rattle.std.proofs.lemmas.List.Elements.{All-from_all_within, AllWithin-from_all}
use Rattle.std.proofs.lemmas.List.Sums.{prefix_len_passes, prefix_len_stops, prefix_len_is, AllPass-from_list_all, list_all-from_AllPass}
use Rattle.std.proofs.lemmas.List.Folds.{list_any_at, Any-from_list_any}
use Rattle.std.specs.Cmp.Lexicographic.{pointwise}
use Rattle.as4_values.specs.Stamp.{IsStamp, fits_byte, fraction_form, zone_forms, wrong_field}
use Rattle.as4_values.specs.Texts.{is_xml, text_limit, HasCore, Spells}
use Rattle.byte_forms.specs.Classes.{is_blank}
use Rattle.as4_values.specs.Word.{IsWord, allows, limit_of}
use Rattle.as4_values.specs.declared.word.Word.{Word}
use Rattle.as4_values.proofs.TextLemmas.{Cut, cut_here, cut_of, core_at, one_core}
use Rattle.byte_forms.proofs.TrimLemmas.{end_is, part_between}
use Rattle.as4_values.proofs.XmlTests.{xml_tested, xml_found}
use Rattle.header_reader.specs.Values.{is_text, is_word, has_form, any_below, is_stamp, read_by, text_of}
use Rattle.byte_forms.specs.Trimmed.{end_of, trimmed}

-- between the blanks

pub core_is_trimmed : (bytes core : List ℕ) (at : ℕ) → HasCore bytes core at → trimmed bytes ≡ core
unfolding trimmed
core_is_trimmed bytes core at has =
    let cut : Cut bytes at (at + length core) = cut_of bytes core at has in
    let some = cut.some in
    let within = cut.within in
    let start : prefix_len is_blank bytes ≡ at = prefix_len_is is_blank bytes at 0 (omega arith) (λ k less. cut.front k 0 (omega arith) less) (λ _. cut.first) in
    let end : end_of bytes (length bytes) ≡ at + length core =
    end_is bytes (at + length core) (length bytes) (omega arith) (λ k low high. cut.back k 0 low high) (λ _. cut.last) in
    rw (start, end) (one_core bytes (take (at + length core - at) (drop at bytes)) core at at (core_at bytes at (at + length core) cut) has)

trimmed_is_core : (bytes : List ℕ) → 0 < length (trimmed bytes) → HasCore bytes (trimmed bytes) (prefix_len is_blank bytes)
unfolding trimmed
trimmed_is_core bytes some =
    let start : ℕ = prefix_len is_blank bytes in
    let end : ℕ = end_of bytes (length bytes) in
    elim (cases_lt start end) [
      | inl less ↦ core_at bytes start end (cut_here bytes less)
      | inr none ↦ absurd (omega (arith, ap length (part_between bytes start end none)))
    ]

or_true : (b : Bool) → (b || true) ≡ true
or_true true = refl
or_true false = refl

none_here : {X : Type 0} (o : Option X) → is_none o ≡ true → o ≡ None
none_here None is = refl
none_here (Some x) is = absurd (false≢true is)

-- texts

pub text_read : (bytes text : List ℕ) → Spells bytes text → text_of bytes ≡ Some text
unfolding is_text read_by
text_read bytes text is =
    let same : trimmed bytes ≡ text = core_is_trimmed bytes text is.1.0 is.1.1 in
    let some : nat_le 1 (length text) ≡ true = le-leb 1 (length text) (omega (arith, is.0.trimmed.some)) in
    let limited : nat_le (length text) text_limit ≡ true = le-leb (length text) text_limit is.0.limited in
    rw (same, some, limited, xml_tested text is.0.spelled) refl

text_found : (bytes : List ℕ) → is_text (trimmed bytes) ≡ true → Spells bytes (trimmed bytes)
unfolding is_text
text_found bytes passes =
    let parts = and_parts (nat_le 1 (length (trimmed bytes)) && nat_le (length (trimmed bytes)) text_limit) (is_xml (trimmed bytes)) passes in
    let counts = and_parts (nat_le 1 (length (trimmed bytes))) (nat_le (length (trimmed bytes)) text_limit) parts.0 in
    let has = trimmed_is_core bytes (omega (arith, leb-true 1 (length (trimmed bytes)) counts.0)) in (
      record { trimmed = has.4; limited = leb-true (length (trimmed bytes)) text_limit counts.1; spelled = xml_found (trimmed bytes) parts.1 },
      (prefix_len is_blank bytes, has),
    )

-- bytes that fail the test are not read
unread : (test : List ℕ → Bool) (bytes : List ℕ) → (test (trimmed bytes) ≡ true → ⊥) → read_by test bytes ≡ None
unfolding read_by
unread test bytes none =
    elim (cases_Bool (test (trimmed bytes))) [
      | inl passes ↦ absurd (none passes)
      | inr fails ↦ rw fails refl
    ]

passed : (test : List ℕ → Bool) (bytes : List ℕ) → test (trimmed bytes) ≡ true → read_by test bytes ≡ Some (trimmed bytes)
unfolding read_by
passed test bytes passes = rw passes refl

pub text_unread : (bytes : List ℕ) → ((text : List ℕ) → Spells bytes text → ⊥) → text_of bytes ≡ None
text_unread bytes none = unread is_text bytes (λ passes. none (trimmed bytes) (text_found bytes passes))

-- words

pub word_tested : (word : Word) (bytes : List ℕ) → IsWord word bytes → is_word word bytes ≡ true
unfolding is_word
word_tested word bytes is =
    let some : nat_le 1 (length bytes) ≡ true = le-leb 1 (length bytes) (omega (arith, is.some)) in
    let limited : nat_le (length bytes) (limit_of word) ≡ true = le-leb (length bytes) (limit_of word) is.limited in
    let each : list_all (allows word) bytes ≡ true = list_all-from_AllPass (allows word) bytes (All-from_all_within (λ b. IsTrue (allows word b)) bytes is.each) in
    rw (some, limited, each) refl

word_found : (word : Word) (bytes : List ℕ) → is_word word bytes ≡ true → IsWord word bytes
unfolding is_word
word_found word bytes passes =
    let parts = and_parts (nat_le 1 (length bytes) && nat_le (length bytes) (limit_of word)) (list_all (allows word) bytes) passes in
    let counts = and_parts (nat_le 1 (length bytes)) (nat_le (length bytes) (limit_of word)) parts.0 in
    let some : 1 ≤ length bytes = leb-true 1 (length bytes) counts.0 in
    record {
      some = omega arith;
      limited = leb-true (length bytes) (limit_of word) counts.1;
      each = AllWithin-from_all (λ b. IsTrue (allows word b)) bytes (AllPass-from_list_all (allows word) bytes parts.1);
    }

pub word_read : (word : Word) (bytes core read : List ℕ) → core ≡ trimmed bytes → (read ≡ core) × IsWord word core → read_by (is_word word) bytes ≡ Some read
word_read word bytes core read same is =
    let whole : IsWord word (trimmed bytes) = rw same at is.1 in
    passed (is_word word) bytes (word_tested word (trimmed bytes) whole) ∙ ap Some (sym same ∙ sym is.0)

pub word_unread : (word : Word) (bytes core : List ℕ) → core ≡ trimmed bytes → (IsWord word core → ⊥) → read_by (is_word word) bytes ≡ None
word_unread word bytes core same none = unread (is_word word) bytes (λ passes. none (rw same (word_found word (trimmed bytes) passes)))

-- stamps

fits_all : (form text : List ℕ) → length form ≡ length text → ((k : ℕ) → k < length text → IsTrue (fits_byte (slice_index form k) (slice_index text k))) → pointwise fits_byte form text ≡ true
fits_all [] [] same each = refl
fits_all [] (b ∷ text) same each = absurd (omega arith)
fits_all (f ∷ form) [] same each = absurd (omega arith)
fits_all (f ∷ form) (b ∷ text) same each =
    let here : fits_byte f b ≡ true = each 0 (omega arith) in
    let more : pointwise fits_byte form text ≡ true = fits_all form text (omega arith) (λ k within. each (suc k) (omega arith)) in
    rw (here, more) refl

all_fit : (form text : List ℕ) → pointwise fits_byte form text ≡ true → (k : ℕ) → k < length text → IsTrue (fits_byte (slice_index form k) (slice_index text k))
all_fit [] [] fits k within = absurd (omega arith)
all_fit [] (b ∷ text) fits k within = absurd (false≢true fits)
all_fit (f ∷ form) [] fits k within = absurd (omega arith)
all_fit (f ∷ form) (b ∷ text) fits zero within = (and_parts (fits_byte f b) (pointwise fits_byte form text) fits).0
all_fit (f ∷ form) (b ∷ text) fits (suc k) within = all_fit form text (and_parts (fits_byte f b) (pointwise fits_byte form text) fits).1 k (omega arith)

below_tested : (test : ℕ → Bool) (m n : ℕ) → n < m → test n ≡ true → any_below m test ≡ true
below_tested test zero n less passes = absurd (omega arith)
below_tested test (suc m) n less passes =
    elim (cases_lt n m) [
      | inl below ↦ rw (below_tested test m n below passes) (or_true (test m))
      | inr last ↦ let here : m ≡ n = omega arith in rw (here, passes) refl
    ]

below_found : (test : ℕ → Bool) (m : ℕ) → any_below m test ≡ true → (n : ℕ) × (n < m) × (test n ≡ true)
below_found test zero passes = absurd (false≢true passes)
below_found test (suc m) passes =
    elim (or_cases (test m) (any_below m test) passes) [
      | inl here ↦ (m, omega arith, here)
      | inr more ↦ let found = below_found test m more in (found.0, omega (arith, found.1), found.2)
    ]

contained_tested : {X : Type 0} (test : X → Bool) (xs : List X) (x : X) → Contains xs x → test x ≡ true → list_any test xs ≡ true
contained_tested test xs x has passes = list_any_at test xs has.0 x has.1 (rw has.2 passes)

stamp_tested : (text : List ℕ) → IsStamp text → is_stamp text ≡ true
unfolding is_stamp
stamp_tested text is =
    let form = is.0.0 in
    let kind = is.0.1 in
    let same : length form ≡ length text = is.0.2 in
    let whole : has_form text form ≡ true = rw (eq-eqb (length form) (length text) same, fits_all form text same is.0.3.each) refl in
    let placed : has_form text (codes "0000-00-00T00:00:00" ++ fraction_form kind.0 ++ kind.1) ≡ true = rw kind.4 at whole in
    let zoned : any_below 10 (λ places. has_form text (codes "0000-00-00T00:00:00" ++ fraction_form places ++ kind.1)) ≡ true =
    below_tested (λ places. has_form text (codes "0000-00-00T00:00:00" ++ fraction_form places ++ kind.1)) 10 kind.0 (omega (arith, kind.2)) placed in
    let zones : list_any (λ zone. any_below 10 (λ places. has_form text (codes "0000-00-00T00:00:00" ++ fraction_form places ++ zone))) zone_forms ≡ true =
    contained_tested (λ zone. any_below 10 (λ places. has_form text (codes "0000-00-00T00:00:00" ++ fraction_form places ++ zone))) zone_forms kind.1 kind.3 zoned in
    rw (zones, is.1) refl

stamp_found : (text : List ℕ) → is_stamp text ≡ true → IsStamp text
unfolding is_stamp
stamp_found text passes =
    let parts = and_parts (list_any (λ zone. any_below 10 (λ places. has_form text (codes "0000-00-00T00:00:00" ++ fraction_form places ++ zone))) zone_forms) (is_none (wrong_field text)) passes in
    let zone = Any-from_list_any (λ zone. any_below 10 (λ places. has_form text (codes "0000-00-00T00:00:00" ++ fraction_form places ++ zone))) zone_forms parts.0 in
    let places = below_found (λ places. has_form text (codes "0000-00-00T00:00:00" ++ fraction_form places ++ zone.1)) 10 zone.4 in
    let form : List ℕ = codes "0000-00-00T00:00:00" ++ fraction_form places.0 ++ zone.1 in
    let fits = and_parts (length form == length text) (pointwise fits_byte form text) places.2 in
    let same : length form ≡ length text = eqb-true (length form) (length text) fits.0 in (
      (
        form,
        (places.0, zone.1, omega (arith, places.1), (zone.0, zone.2, zone.3), refl),
        same,
        record { in_form = omega arith; in_text = omega arith; each = all_fit form text fits.1 },
      ),
      none_here (wrong_field text) parts.1,
    )

pub stamp_read : (bytes core read : List ℕ) → core ≡ trimmed bytes → (read ≡ core) × IsStamp core → read_by is_stamp bytes ≡ Some read
stamp_read bytes core read same is =
    let whole : IsStamp (trimmed bytes) = rw same at is.1 in
    passed is_stamp bytes (stamp_tested (trimmed bytes) whole) ∙ ap Some (sym same ∙ sym is.0)

pub stamp_unread : (bytes core : List ℕ) → core ≡ trimmed bytes → (IsStamp core → ⊥) → read_by is_stamp bytes ≡ None
stamp_unread bytes core same none = unread is_stamp bytes (λ passes. none (rw same (stamp_found (trimmed bytes) passes)))
