-- Bytes between blanks, the place where bytes go wrong as a text, and plain texts.
use Rattle.std.proofs.Common.{◌≡◌, ℕ, ◌+◌, ◌-◌, ◌<◌, ◌≤◌, inl, inr, List, [], ◌++◌, Bool, false, length, take, drop, get_or, arith, refl, sym, ◌∙◌, ap, append_assoc, length-append, length-drop}
use Rattle.std.specs.Prelude.{IsTrue, slice_index, encode_utf8_all, IsUtf8}
use Rattle.std.specs.Str.{IsAscii}
use Rattle.std.specs.List.{All, AllWithin, prefix_len}
use Rattle.std.proofs.lemmas.Bool.{cases_lt}
use Rattle.std.proofs.lemmas.Bool.Decides.{nat_tests}
use Rattle.std.proofs.lemmas.Str.{IsUtf8-take, IsUtf8-drop, IsUtf8-from_ascii, IsCharBoundary-from_take, IsCharBoundary-at_seam, encodes-IsAscii, encodes-append, encodes_same}
use Rattle.std.proofs.lemmas.Str.Ascii.{IsAscii-from_reads}
use Rattle.std.proofs.lemmas.List.{get_or_default, get_or-append_right, get_or_append_left, get_or-drop, get_or-take, take-append-drop, drop-take, take-take, take_at, drop_at, length-take-le, append-nil}
use Rattle.std.proofs.lemmas.List.Elements.{All-append, All-take, All-drop, AllWithin-from_all, All-from_all_within}
use Rattle.as4_values.specs.Texts.{IsXml, IsBlank, IsTrimmed, IsText, HasCore, Spells, TextGoesWrong, text_limit}
use Rattle.std.proofs.lemmas.List.Sums.{prefix_len_passes, prefix_len_stops}
use Rattle.byte_forms.specs.Classes.{is_blank}
use Rattle.byte_forms.specs.Trimmed.{end_of}
use Rattle.byte_forms.proofs.TrimLemmas.{end_blank, end_stops, end_within}
use Rattle.as4_values.specs.PlainTexts.{IsPlainText, is_plain, allows_at}
use Rattle.as4_values.proofs.XmlLemmas.{XmlChar, xml_is_utf8, xml_has_no_stop, one_stop}

-- the core, by its places: blanks before and after it, and none at its ends
pub record Cut (bytes : List ℕ) (start end : ℕ) : Type 0 where
  pub some : start < end
  pub within : end ≤ length bytes
  pub front : AllWithin (λ b. IsTrue (is_blank b)) bytes 0 start
  pub back : AllWithin (λ b. IsTrue (is_blank b)) bytes end (length bytes)
  pub first : is_blank (slice_index bytes start) ≡ false
  pub last : is_blank (slice_index bytes (end - 1)) ≡ false

true_false : {P : Type 0} (b : Bool) → IsTrue b → b ≡ false → P
true_false b is not_so = absurd (grind arith)

blank_at : (bytes : List ℕ) (low high k : ℕ) → {P : Type 0} → AllWithin (λ b. IsTrue (is_blank b)) bytes low high
    → low ≤ k → k < high → is_blank (slice_index bytes k) ≡ false → P
blank_at bytes low high k blank above below not_so = true_false (is_blank (slice_index bytes k)) (blank k 0 above below) not_so

cancel : (n k : ℕ) → n + k - n ≡ k
cancel n k = omega arith

plus_none : (n : ℕ) → n + 0 ≡ n
plus_none n = omega arith

last_of : (n m : ℕ) → 0 < m → n + m - 1 ≡ n + (m - 1)
last_of n m some = omega arith

-- bytes have one cut
same_start : (bytes : List ℕ) (a b c d : ℕ) → Cut bytes a b → Cut bytes c d → a ≡ c
same_start bytes a b c d one other =
    let one_within = one.within in
    let some = one.some in
    let other_within = other.within in
    let other_some = other.some in
    elim (cases_lt a c) as (λ _. a ≡ c) [
      | inl less ↦ blank_at bytes 0 c a other.front (omega arith) less one.first
      | inr rest ↦ elim (cases_lt c a) as (λ _. a ≡ c) [
        | inl more ↦ blank_at bytes 0 a c one.front (omega arith) more other.first
        | inr same ↦ omega arith
      ]
    ]

same_end : (bytes : List ℕ) (a b c d : ℕ) → Cut bytes a b → Cut bytes c d → b ≡ d
same_end bytes a b c d one other =
    let one_within = one.within in
    let some = one.some in
    let other_within = other.within in
    let other_some = other.some in
    elim (cases_lt b d) as (λ _. b ≡ d) [
      | inl less ↦ blank_at bytes b (length bytes) (d - 1) one.back (omega arith) (omega arith) other.last
      | inr rest ↦ elim (cases_lt d b) as (λ _. b ≡ d) [
        | inl more ↦ blank_at bytes d (length bytes) (b - 1) other.back (omega arith) (omega arith) one.last
        | inr same ↦ omega arith
      ]
    ]

-- the core as a part of the bytes

take_join : (bytes : List ℕ) (start end : ℕ) → start ≤ end → take start bytes ++ take (end - start) (drop start bytes) ≡ take end bytes
take_join bytes start end le =
    let sum : start + (end - start) ≡ end = omega arith in
    let back : drop start (take end bytes) ≡ take (end - start) (drop start bytes) =
    ap (λ n. drop start (take n bytes)) (sym sum) ∙ drop-take start (end - start) bytes in
    sym (sym (take-append-drop start (take end bytes)) ∙ (ap (λ xs. xs ++ drop start (take end bytes)) (take-take start end bytes le)
    ∙ ap (λ xs. take start bytes ++ xs) back))

read_part : (bytes : List ℕ) (start count k d : ℕ) → k < count → get_or (take count (drop start bytes)) k d ≡ get_or bytes (start + k) d
read_part bytes start count k d within = get_or-take count (drop start bytes) k d within ∙ get_or-drop start bytes k d

core_trimmed : (bytes : List ℕ) (start end : ℕ) → Cut bytes start end → IsTrimmed (take (end - start) (drop start bytes))
core_trimmed bytes start end cut =
    let some = cut.some in
    let within = cut.within in
    let len : length (take (end - start) (drop start bytes)) ≡ end - start =
    length-take-le (end - start) (drop start bytes) (omega (arith, length-drop start bytes)) in
    let count : 0 < end - start = omega arith in
    let last_in : end - start - 1 < end - start = omega arith in
    let first_place : start + 0 ≡ start = omega arith in
    let last_place : start + (end - start - 1) ≡ end - 1 = omega arith in
    let first_byte : get_or (take (end - start) (drop start bytes)) 0 0 ≡ get_or bytes start 0 =
    read_part bytes start (end - start) 0 0 count ∙ ap (λ n. get_or bytes n 0) first_place in
    let last_byte : get_or (take (end - start) (drop start bytes)) (end - start - 1) 0 ≡ get_or bytes (end - 1) 0 =
    read_part bytes start (end - start) (end - start - 1) 0 last_in ∙ ap (λ n. get_or bytes n 0) last_place in
    record {
      some = rw len count;
      first = rw first_byte cut.first;
      last = rw (len, last_byte) cut.last;
    }

pub core_at : (bytes : List ℕ) (start end : ℕ) → Cut bytes start end → HasCore bytes (take (end - start) (drop start bytes)) start
core_at bytes start end cut =
    let some = cut.some in
    let within = cut.within in
    let start_in : start ≤ length bytes = omega arith in
    let len : length (take start bytes) ≡ start = length-take-le start bytes start_in in (
      take start bytes,
      drop end bytes,
      λ k d above below. let less : k < start = omega arith in rw (get_or-take start bytes k d less) (cut.front k d above less),
      λ k d above below. rw get_or-drop (cut.back (end + k) d (omega arith) (omega (arith, length-drop end bytes))),
      core_trimmed bytes start end cut,
      sym (ap (λ xs. xs ++ drop end bytes) (take_join bytes start end (omega arith)) ∙ take-append-drop end bytes),
      sym len,
    )

-- from the core to its places
read_front : (front rest : List ℕ) (k d : ℕ) → k < length front → get_or (front ++ rest) k d ≡ get_or front k d
read_front front rest k d within = get_or_append_left front rest d k within

read_rest : (front rest : List ℕ) (k d : ℕ) → length front ≤ k → get_or (front ++ rest) k d ≡ get_or rest (k - length front) d
read_rest front rest k d past = get_or-append_right front rest (length front) k d refl past

cut_parts : (front core back : List ℕ) → IsBlank front → IsBlank back → IsTrimmed core
    → Cut (front ++ (core ++ back)) (length front) (length front + length core)
cut_parts front core back blank_front blank_back trimmed =
    let some = trimmed.some in
    let len : length (front ++ (core ++ back)) ≡ length front + (length core + length back) =
    length-append front (core ++ back) ∙ ap (λ n. length front + n) (length-append core back) in
    let core_byte : (k : ℕ) → k < length core → get_or (front ++ (core ++ back)) (length front + k) 0 ≡ get_or core k 0 =
    λ k within. read_rest front (core ++ back) (length front + k) 0 (omega arith)
    ∙ (ap (λ n. get_or (core ++ back) n 0) (cancel (length front) k) ∙ read_front core back k 0 within) in
    let back_byte : (k d : ℕ) → length front + length core ≤ k → get_or (front ++ (core ++ back)) k d ≡ get_or back (k - length front - length core) d =
    λ k d past. read_rest front (core ++ back) k d (omega arith) ∙ read_rest core back (k - length front) d (omega arith) in
    record {
      some = omega arith;
      within = omega arith;
      front = λ k d above below. rw (read_front front (core ++ back) k d below) (blank_front k d above below);
      back = λ k d above below. rw (back_byte k d above) (blank_back (k - length front - length core) d (omega arith) (omega arith));
      first = rw (ap (λ n. get_or (front ++ (core ++ back)) n 0) (sym (plus_none (length front))) ∙ core_byte 0 some) trimmed.first;
      last = rw (ap (λ n. get_or (front ++ (core ++ back)) n 0) (last_of (length front) (length core) some) ∙ core_byte (length core - 1) (omega arith)) trimmed.last;
    }

pub cut_of : (bytes core : List ℕ) (at : ℕ) → HasCore bytes core at → Cut bytes at (at + length core)
cut_of bytes core at has =
    let whole : bytes ≡ has.0 ++ (core ++ has.1) = has.5 ∙ append_assoc has.0 core has.1 in
    rw (whole, has.6) (cut_parts has.0 core has.1 has.2 has.3 has.4)

core_part : (bytes core : List ℕ) (at : ℕ) → HasCore bytes core at → core ≡ take (length core) (drop at bytes)
core_part bytes core at has =
    let whole : bytes ≡ has.0 ++ (core ++ has.1) = has.5 ∙ append_assoc has.0 core has.1 in
    let rest : drop at bytes ≡ core ++ has.1 = ap (drop at) whole ∙ drop_at has.0 (core ++ has.1) at (sym has.6) in
    sym (ap (take (length core)) rest ∙ take_at core has.1 (length core) refl)

pub same_place : (bytes a b : List ℕ) (at bt : ℕ) → HasCore bytes a at → HasCore bytes b bt → at ≡ bt
same_place bytes a b at bt one other = same_start bytes at (at + length a) bt (bt + length b) (cut_of bytes a at one) (cut_of bytes b bt other)

pub one_core : (bytes a b : List ℕ) (at bt : ℕ) → HasCore bytes a at → HasCore bytes b bt → a ≡ b
one_core bytes a b at bt one other =
    let place = same_place bytes a b at bt one other in
    let ends = same_end bytes at (at + length a) bt (bt + length b) (cut_of bytes a at one) (cut_of bytes b bt other) in
    let len : length a ≡ length b = omega arith in
    core_part bytes a at one ∙ (rw (len, place) (sym (core_part bytes b bt other)))

-- the core of characters of XML is characters of XML

blank_is_ascii : (b : ℕ) → IsTrue (is_blank b) → b < 128
blank_is_ascii b blank = grind (arith, nat_tests)

blank_is_xml : (b : ℕ) → IsTrue (is_blank b) → XmlChar b
blank_is_xml b blank = grind (arith, nat_tests)

blanks_are_ascii : (bytes : List ℕ) → IsBlank bytes → IsAscii bytes
blanks_are_ascii bytes blank =
    IsAscii-from_reads bytes (length bytes) (omega arith) (λ k within. blank_is_ascii (slice_index bytes k) (blank k 0 (omega arith) within))

blanks_are_xml : (bytes : List ℕ) → IsBlank bytes → All XmlChar bytes
blanks_are_xml bytes blank = λ k d within. blank_is_xml (get_or bytes k d) (blank k d (omega arith) within)

pub blank_is_text : (bytes : List ℕ) → IsBlank bytes → IsXml bytes
blank_is_text bytes blank =
    (bytes, AllWithin-from_all XmlChar bytes (blanks_are_xml bytes blank), encodes-IsAscii bytes (blanks_are_ascii bytes blank))

core_is_utf8 : (front core back : List ℕ) → IsBlank front → IsBlank back → IsUtf8 (front ++ (core ++ back)) → IsUtf8 core
core_is_utf8 front core back blank_front blank_back utf8 =
    let whole : List ℕ = front ++ (core ++ back) in
    let front_in : length front ≤ length (front ++ (core ++ back)) = omega (arith, length-append front (core ++ back)) in
    let front_utf8 : IsUtf8 (take (length front) (front ++ (core ++ back))) =
    rw (take_at front (core ++ back) (length front) refl) (IsUtf8-from_ascii front (blanks_are_ascii front blank_front)) in
    let rest : IsUtf8 (core ++ back) =
    rw (drop_at front (core ++ back) (length front) refl) at
    (IsUtf8-drop (front ++ (core ++ back)) (length front) utf8
    (IsCharBoundary-from_take (front ++ (core ++ back)) (length front) utf8 front_in front_utf8)) in
    rw (take_at core back (length core) refl) at
    (IsUtf8-take (core ++ back) (length core) rest
    (IsCharBoundary-at_seam (core ++ back) core back refl (IsUtf8-from_ascii back (blanks_are_ascii back blank_back))))

spelled : (front back chars : List ℕ) → IsBlank front → IsBlank back
    → encode_utf8_all (front ++ (chars ++ back)) ≡ front ++ (encode_utf8_all chars ++ back)
spelled front back chars blank_front blank_back =
    encodes-append front (chars ++ back)
    ∙ (ap (λ xs. xs ++ encode_utf8_all (chars ++ back)) (encodes-IsAscii front (blanks_are_ascii front blank_front))
    ∙ ap (λ xs. front ++ xs) (encodes-append chars back
    ∙ ap (λ xs. encode_utf8_all chars ++ xs) (encodes-IsAscii back (blanks_are_ascii back blank_back))))

core_is_xml : (front core back : List ℕ) → IsBlank front → IsBlank back → IsXml (front ++ (core ++ back)) → IsXml core
core_is_xml front core back blank_front blank_back xml =
    let utf8 = core_is_utf8 front core back blank_front blank_back (xml_is_utf8 (front ++ (core ++ back)) xml) in
    let chars : xml.0 ≡ front ++ (utf8.0 ++ back) =
    encodes_same xml.0 (front ++ (utf8.0 ++ back))
    (xml.2 ∙ sym (spelled front back utf8.0 blank_front blank_back ∙ ap (λ xs. front ++ (xs ++ back)) utf8.1.1)) in
    let all : All XmlChar (front ++ (utf8.0 ++ back)) = rw (← chars) (All-from_all_within XmlChar xml.0 xml.1) in
    let rest : All XmlChar (utf8.0 ++ back) =
    rw (drop_at front (utf8.0 ++ back) (length front) refl) at (All-drop XmlChar (length front) (front ++ (utf8.0 ++ back)) all) in
    let here : All XmlChar utf8.0 = rw (take_at utf8.0 back (length utf8.0) refl) at (All-take XmlChar (length utf8.0) (utf8.0 ++ back) rest) in
    (utf8.0, AllWithin-from_all XmlChar utf8.0 here, utf8.1.1)

whole_is_xml : (front core back : List ℕ) → IsBlank front → IsBlank back → IsXml core → IsXml (front ++ (core ++ back))
whole_is_xml front core back blank_front blank_back xml = (
  front ++ (xml.0 ++ back),
  AllWithin-from_all XmlChar (front ++ (xml.0 ++ back))
      (All-append XmlChar front (xml.0 ++ back) (blanks_are_xml front blank_front)
      (All-append XmlChar xml.0 back (All-from_all_within XmlChar xml.0 xml.1) (blanks_are_xml back blank_back))),
  spelled front back xml.0 blank_front blank_back ∙ ap (λ xs. front ++ (xs ++ back)) xml.2,
)

spelled_is_xml : (bytes core : List ℕ) (at : ℕ) → HasCore bytes core at → IsXml core → IsXml bytes
spelled_is_xml bytes core at has xml =
    rw (has.5 ∙ append_assoc has.0 core has.1) (whole_is_xml has.0 core has.1 has.2 has.3 xml)

-- the text that is read, and where bytes go wrong

pub core_is_text : (bytes core : List ℕ) (at : ℕ) → IsXml bytes → HasCore bytes core at → length core ≤ text_limit → Spells bytes core
core_is_text bytes core at xml has limited = (
  record {
    trimmed = has.4;
    limited = limited;
    spelled = core_is_xml has.0 core has.1 has.2 has.3 (rw (← has.5 ∙ append_assoc has.0 core has.1) xml);
  },
  (at, has),
)

pub one_text_of : (bytes a b : List ℕ) → Spells bytes a → Spells bytes b → a ≡ b
one_text_of bytes a b one other = one_core bytes a b one.1.0 other.1.0 one.1.1 other.1.1

no_core : (bytes core : List ℕ) (at : ℕ) → IsBlank bytes → HasCore bytes core at → ⊥
no_core bytes core at blank has =
    let cut = cut_of bytes core at has in
    let some = cut.some in
    let within = cut.within in
    blank_at bytes 0 (length bytes) at blank (omega arith) (omega arith) cut.first

pub text_is_right : (bytes text : List ℕ) (at : ℕ) → Spells bytes text → TextGoesWrong bytes at → ⊥
text_is_right bytes text at is (inl stop) =
    xml_has_no_stop bytes at (spelled_is_xml bytes text is.1.0 is.1.1 is.0.spelled) stop
text_is_right bytes text at is (inr (inl long)) =
    let same = one_core bytes text long.1.0 is.1.0 long.1.1 is.1.1 long.1.2 in
    let limited = is.0.limited in
    absurd (omega (arith, ap length same, long.1.3))
text_is_right bytes text at is (inr (inr blank)) = no_core bytes text is.1.0 blank.0 is.1.1

pub wrong_once : (bytes : List ℕ) (a b : ℕ) → TextGoesWrong bytes a → TextGoesWrong bytes b → a ≡ b
wrong_once bytes a b (inl stop) (inl other) = one_stop bytes a b stop other
wrong_once bytes a b (inl stop) (inr (inl long)) = absurd (xml_has_no_stop bytes a long.0 stop)
wrong_once bytes a b (inl stop) (inr (inr blank)) = absurd (xml_has_no_stop bytes a (blank_is_text bytes blank.0) stop)
wrong_once bytes a b (inr (inl long)) (inl other) = absurd (xml_has_no_stop bytes b long.0 other)
wrong_once bytes a b (inr (inl long)) (inr (inl more)) =
    let same = same_place bytes long.1.0 more.1.0 long.1.1 more.1.1 long.1.2 more.1.2 in
    omega (arith, same, long.1.4, more.1.4)
wrong_once bytes a b (inr (inl long)) (inr (inr blank)) = absurd (no_core bytes long.1.0 long.1.1 blank.0 long.1.2)
wrong_once bytes a b (inr (inr blank)) (inl other) = absurd (xml_has_no_stop bytes b (blank_is_text bytes blank.0) other)
wrong_once bytes a b (inr (inr blank)) (inr (inl long)) = absurd (no_core bytes long.1.0 long.1.1 blank.0 long.1.2)
wrong_once bytes a b (inr (inr blank)) (inr (inr more)) = blank.1 ∙ sym more.1

-- plain texts

-- a plain byte is a character of XML and of ASCII, and a blank only where it is a space
plain_is_xml : (b : ℕ) → IsTrue (is_plain b) → XmlChar b
plain_is_xml b plain = grind (arith, nat_tests)

plain_is_ascii : (b : ℕ) → IsTrue (is_plain b) → b < 128
plain_is_ascii b plain = grind (arith, nat_tests)

allowed_is_plain : (bytes : List ℕ) (at : ℕ) → IsTrue (allows_at bytes at) → IsTrue (is_plain (slice_index bytes at))
allowed_is_plain bytes at allowed = grind (arith, nat_tests)

first_is_no_blank : (bytes : List ℕ) → IsTrue (allows_at bytes 0) → is_blank (slice_index bytes 0) ≡ false
first_is_no_blank bytes allowed = grind (arith, nat_tests)

last_is_no_blank : (bytes : List ℕ) → 0 < length bytes → IsTrue (allows_at bytes (length bytes - 1)) → is_blank (slice_index bytes (length bytes - 1)) ≡ false
last_is_no_blank bytes some allowed = grind (arith, nat_tests)

pub plain_is_text : (bytes : List ℕ) → IsPlainText bytes → IsText bytes
plain_is_text bytes plain =
    let some = plain.some in
    record {
      trimmed = record {
        some = plain.some;
        first = first_is_no_blank bytes (plain.each 0 plain.some);
        last = last_is_no_blank bytes plain.some (plain.each (length bytes - 1) (omega arith));
      };
      limited = plain.limited;
      spelled = (
        bytes,
        λ k d _ within. rw (get_or_default bytes k d 0 within) (plain_is_xml (slice_index bytes k) (allowed_is_plain bytes k (plain.each k within))),
        encodes-IsAscii bytes
            (IsAscii-from_reads bytes (length bytes) (omega arith)
            (λ k within. plain_is_ascii (slice_index bytes k) (allowed_is_plain bytes k (plain.each k within)))),
      );
    }

-- a plain text is read unchanged
pub plain_spells : (bytes : List ℕ) → IsPlainText bytes → Spells bytes bytes
plain_spells bytes plain =
    let text = plain_is_text bytes plain in
    (text, (0, ([], [], λ k d above below. absurd (omega arith), λ k d above below. absurd (omega arith), text.trimmed, sym (append-nil bytes), refl)))

pub plain_spells_only : (bytes text : List ℕ) → IsPlainText bytes → Spells bytes text → text ≡ bytes
plain_spells_only bytes text plain is = one_text_of bytes text bytes is (plain_spells bytes plain)

-- by places

pub cut_between : (bytes : List ℕ) (start end : ℕ) → start < end → end ≤ length bytes
    → AllWithin (λ b. IsTrue (is_blank b)) bytes 0 start → AllWithin (λ b. IsTrue (is_blank b)) bytes end (length bytes)
    → (start < length bytes → is_blank (slice_index bytes start) ≡ false) → (0 < end → is_blank (slice_index bytes (end - 1)) ≡ false)
    → Cut bytes start end
cut_between bytes start end some within front back first last =
    record { some = some; within = within; front = front; back = back; first = first (omega arith); last = last (omega arith) }

-- between the blanks that are found at both ends
pub cut_here : (bytes : List ℕ) → prefix_len is_blank bytes < end_of bytes (length bytes) → Cut bytes (prefix_len is_blank bytes) (end_of bytes (length bytes))
cut_here bytes some =
    cut_between bytes (prefix_len is_blank bytes) (end_of bytes (length bytes)) some (end_within bytes (length bytes))
    (λ k d low high. prefix_len_passes is_blank bytes k d high)
    (λ k d low high. rw (get_or_default bytes k d 0 high) (end_blank bytes (length bytes) k low high))
    (λ short. prefix_len_stops is_blank bytes 0 short)
    (λ last. end_stops bytes (length bytes) last)

-- no core between them
pub all_blank : (bytes : List ℕ) (end : ℕ) → end ≤ prefix_len is_blank bytes → AllWithin (λ b. IsTrue (is_blank b)) bytes end (length bytes) → IsBlank bytes
all_blank bytes end none back k d low high =
    elim (cases_lt k (prefix_len is_blank bytes)) [
      | inl less ↦ prefix_len_passes is_blank bytes k d less
      | inr more ↦ back k d (omega arith) high
    ]

core_length : (bytes : List ℕ) (start end : ℕ) → Cut bytes start end → length (take (end - start) (drop start bytes)) ≡ end - start
core_length bytes start end cut =
    let within = cut.within in
    length-take-le (end - start) (drop start bytes) (omega (arith, length-drop start bytes))

pub core_is_right : (bytes : List ℕ) (start end : ℕ) → IsXml bytes → Cut bytes start end → end - start ≤ text_limit
    → Spells bytes (take (end - start) (drop start bytes))
core_is_right bytes start end xml cut limited =
    core_is_text bytes (take (end - start) (drop start bytes)) start xml (core_at bytes start end cut) (rw (core_length bytes start end cut) limited)

pub core_too_long : (bytes : List ℕ) (start end : ℕ) → IsXml bytes → Cut bytes start end → text_limit < end - start
    → TextGoesWrong bytes (start + text_limit)
core_too_long bytes start end xml cut long =
    inr (inl (xml, (take (end - start) (drop start bytes), start, core_at bytes start end cut, rw (core_length bytes start end cut) long, refl)))
