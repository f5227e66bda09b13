-- Characters of XML in UTF-8, by their bytes.
use Rattle.std.proofs.Common.{◌≡◌, ℕ, zero, suc, ◌+◌, ◌-◌, ◌/◌, ◌%◌, ◌<◌, ◌≤◌, List, [], ◌∷◌, ◌++◌, Bool, true, false, inl, inr, length, take, drop, get_or, arith, refl, sym, ◌∙◌, ap, append_assoc, length-append, length-drop}
use Rattle.std.specs.Prelude.{IsTrue, encode_utf8_all, IsUtf8}
use Rattle.std.specs.Char.{encode_utf8, IsScalar}
use Rattle.std.specs.Str.{IsValidUpTo, all_scalars}
use Rattle.std.specs.List.{All}
use Rattle.std.proofs.lemmas.Bool.{cases_lt, cases_eq}
use Rattle.std.proofs.lemmas.Bool.Decides.{nat_tests}
use Rattle.std.proofs.lemmas.List.Elements.{All-nil, All-cons, All-head, All-tail, AllWithin-from_all, All-from_all_within}
use Rattle.std.proofs.lemmas.List.{get_or-append-add, take-append-drop, drop-take, take-take, drop-append-le, length-take-le, take_at, drop_at}
use Rattle.std.proofs.lemmas.Str.{length-encode, len_utf8_bounds, encode_same, encodes-append, IsUtf8-append, IsUtf8-encode}
use Rattle.as4_values.specs.Texts.{IsXml, IsNoXmlFrom, is_xml_char}
use Rattle.as4_values.specs.XmlBytes.{forbidden_at}

-- a character of XML
abbrev pub XmlChar : ℕ → Type 0
XmlChar c = IsTrue (is_xml_char c)

-- one character

one_byte : (c : ℕ) → c < 128 → encode_utf8 c ≡ c ∷ []
unfolding encode_utf8
one_byte c small = grind (arith, nat_tests)

two_bytes : (c : ℕ) → 128 ≤ c → c < 2048 → encode_utf8 c ≡ (192 + c / 64) ∷ (128 + c % 64) ∷ []
unfolding encode_utf8
two_bytes c low high = grind (arith, nat_tests)

three_bytes : (c : ℕ) → 2048 ≤ c → c < 65536 → encode_utf8 c ≡ (224 + c / 4096) ∷ (128 + c / 64 % 64) ∷ (128 + c % 64) ∷ []
unfolding encode_utf8
three_bytes c low high = grind (arith, nat_tests)

four_bytes : (c : ℕ) → 65536 ≤ c → encode_utf8 c ≡ (240 + c / 262144) ∷ (128 + c / 4096 % 64) ∷ (128 + c / 64 % 64) ∷ (128 + c % 64) ∷ []
unfolding encode_utf8
four_bytes c low = grind (arith, nat_tests)

pub xml_is_scalar : (c : ℕ) → XmlChar c → IsScalar c
xml_is_scalar c xml = grind (arith, nat_tests)

long_enough : (c : ℕ) → 1 ≤ length (encode_utf8 c)
long_enough c = rw length-encode ((len_utf8_bounds c).0)

-- where a forbidden character is, by its bytes

allowed_1 : (c : ℕ) (rest : List ℕ) → c < 128 → forbidden_at (c ∷ rest) 0 ≡ false → XmlChar c
unfolding forbidden_at
allowed_1 c rest small is = grind (arith, nat_tests)

forbidden_1 : (c : ℕ) (rest : List ℕ) → c < 128 → forbidden_at (c ∷ rest) 0 ≡ true → is_xml_char c ≡ false
unfolding forbidden_at
forbidden_1 c rest small is = grind (arith, nat_tests)

allowed_2 : (c : ℕ) → 128 ≤ c → c < 2048 → XmlChar c
allowed_2 c low high = grind (arith, nat_tests)

lead_2 : (c next : ℕ) (rest : List ℕ) → 128 ≤ c → c < 2048 → forbidden_at ((192 + c / 64) ∷ next ∷ rest) 0 ≡ false
unfolding forbidden_at
lead_2 c next rest low high =
    let small : 192 + c / 64 < 224 = omega arith in
    grind (arith, nat_tests)

allowed_3 : (c : ℕ) (rest : List ℕ) → IsScalar c → 2048 ≤ c → c < 65536
    → forbidden_at ((224 + c / 4096) ∷ (128 + c / 64 % 64) ∷ (128 + c % 64) ∷ rest) 0 ≡ false → XmlChar c
unfolding forbidden_at
allowed_3 c rest scalar low high is = grind (arith, nat_tests)

forbidden_3 : (c : ℕ) (rest : List ℕ) → 2048 ≤ c → c < 65536
    → forbidden_at ((224 + c / 4096) ∷ (128 + c / 64 % 64) ∷ (128 + c % 64) ∷ rest) 0 ≡ true → is_xml_char c ≡ false
unfolding forbidden_at
forbidden_3 c rest low high is = grind (arith, nat_tests)

allowed_4 : (c : ℕ) → IsScalar c → 65536 ≤ c → XmlChar c
allowed_4 c scalar low = grind (arith, nat_tests)

lead_4 : (c : ℕ) (rest : List ℕ) → forbidden_at ((240 + c / 262144) ∷ rest) 0 ≡ false
unfolding forbidden_at
lead_4 c rest = grind (arith, nat_tests)

-- a byte from 128 to 191 continues a character
inner_byte : (bytes : List ℕ) (k : ℕ) → 128 ≤ get_or bytes k 0 → get_or bytes k 0 < 192 → forbidden_at bytes k ≡ false
unfolding forbidden_at
inner_byte bytes k low high = grind (arith, nat_tests)

-- the same for a character and the bytes after it

-- the four lengths of a character
pub data Sized (c : ℕ) : Type 0 where
  one : c < 128 → Sized c
  two : 128 ≤ c → c < 2048 → Sized c
  three : 2048 ≤ c → c < 65536 → Sized c
  four : 65536 ≤ c → Sized c

sized : (c : ℕ) → Sized c
sized c =
    elim (cases_lt c 128) as (λ _. Sized c) [
      | inl small ↦ one small
      | inr low ↦
          elim (cases_lt c 2048) as (λ _. Sized c) [
            | inl high ↦ two low high
            | inr low₂ ↦
                elim (cases_lt c 65536) as (λ _. Sized c) [ inl high ↦ three low₂ high | inr low₃ ↦ four low₃ ]
          ]
    ]

allowed_by : (c : ℕ) (rest : List ℕ) → Sized c → IsScalar c → forbidden_at (encode_utf8 c ++ rest) 0 ≡ false → XmlChar c
allowed_by c rest (one small) scalar is = allowed_1 c rest small (rw one_byte at is)
allowed_by c rest (two low high) scalar is = allowed_2 c low high
allowed_by c rest (three low high) scalar is = allowed_3 c rest scalar low high (rw three_bytes at is)
allowed_by c rest (four low) scalar is = allowed_4 c scalar low

allowed : (c : ℕ) (rest : List ℕ) → IsScalar c → forbidden_at (encode_utf8 c ++ rest) 0 ≡ false → XmlChar c
allowed c rest scalar is = allowed_by c rest (sized c) scalar is

false_true : {P : Type 0} (b : Bool) → b ≡ true → b ≡ false → P
false_true b is not_so = cc

forbidden_by : (c : ℕ) (rest : List ℕ) → Sized c → forbidden_at (encode_utf8 c ++ rest) 0 ≡ true → is_xml_char c ≡ false
forbidden_by c rest (one small) is = forbidden_1 c rest small (rw one_byte at is)
forbidden_by c rest (two low high) is =
    false_true (forbidden_at ((192 + c / 64) ∷ (128 + c % 64) ∷ rest) 0) (rw two_bytes at is) (lead_2 c (128 + c % 64) rest low high)
forbidden_by c rest (three low high) is = forbidden_3 c rest low high (rw three_bytes at is)
forbidden_by c rest (four low) is =
    false_true (forbidden_at ((240 + c / 262144) ∷ (128 + c / 4096 % 64) ∷ (128 + c / 64 % 64) ∷ (128 + c % 64) ∷ rest) 0) (rw four_bytes at is)
    (lead_4 c ((128 + c / 4096 % 64) ∷ (128 + c / 64 % 64) ∷ (128 + c % 64) ∷ rest))

forbidden : (c : ℕ) (rest : List ℕ) → forbidden_at (encode_utf8 c ++ rest) 0 ≡ true → is_xml_char c ≡ false
forbidden c rest is = forbidden_by c rest (sized c) is

-- within a character: only continuation bytes

inner_by : (c : ℕ) (rest : List ℕ) (k : ℕ) → Sized c → IsScalar c → 0 < k → k < length (encode_utf8 c)
    → (128 ≤ get_or (encode_utf8 c ++ rest) k 0) × (get_or (encode_utf8 c ++ rest) k 0 < 192)
inner_by c rest k (one small) scalar some within = let at = rw one_byte at within in absurd (omega arith)
inner_by c rest zero (two low high) scalar some within = absurd (omega arith)
inner_by c rest (suc zero) (two low high) scalar some within = rw two_bytes (omega arith, omega arith)
inner_by c rest (suc (suc k)) (two low high) scalar some within = let at = rw two_bytes at within in absurd (omega arith)
inner_by c rest zero (three low high) scalar some within = absurd (omega arith)
inner_by c rest (suc zero) (three low high) scalar some within = rw three_bytes (omega arith, omega arith)
inner_by c rest (suc (suc zero)) (three low high) scalar some within = rw three_bytes (omega arith, omega arith)
inner_by c rest (suc (suc (suc k))) (three low high) scalar some within = let at = rw three_bytes at within in absurd (omega arith)
inner_by c rest zero (four low) scalar some within = absurd (omega arith)
inner_by c rest (suc zero) (four low) scalar some within = rw four_bytes (omega arith, omega arith)
inner_by c rest (suc (suc zero)) (four low) scalar some within = rw four_bytes (omega arith, omega arith)
inner_by c rest (suc (suc (suc zero))) (four low) scalar some within = rw four_bytes (omega arith, omega arith)
inner_by c rest (suc (suc (suc (suc k)))) (four low) scalar some within = let at = rw four_bytes at within in absurd (omega arith)

inner : (c : ℕ) (rest : List ℕ) (k : ℕ) → IsScalar c → 0 < k → k < length (encode_utf8 c) → forbidden_at (encode_utf8 c ++ rest) k ≡ false
inner c rest k scalar some within =
    let byte = inner_by c rest k (sized c) scalar some within in
    inner_byte (encode_utf8 c ++ rest) k byte.0 byte.1

-- past a character
shifted : (xs rest : List ℕ) (i k : ℕ) → i ≡ length xs + k → get_or (xs ++ rest) i 0 ≡ get_or rest k 0
shifted xs rest i k e = rw e (get_or-append-add xs rest k 0)

add_back : (n m : ℕ) → m ≤ n → m + (n - m) ≡ n
add_back n m le = omega arith

past : (xs rest : List ℕ) (k : ℕ) → forbidden_at (xs ++ rest) (length xs + k) ≡ forbidden_at rest k
unfolding forbidden_at
past xs rest k =
    let here : get_or (xs ++ rest) (length xs + k) 0 ≡ get_or rest k 0 = get_or-append-add xs rest k 0 in
    let next : get_or (xs ++ rest) (length xs + k + 1) 0 ≡ get_or rest (k + 1) 0 = shifted xs rest (length xs + k + 1) (k + 1) (omega arith) in
    let third : get_or (xs ++ rest) (length xs + k + 2) 0 ≡ get_or rest (k + 2) 0 = shifted xs rest (length xs + k + 2) (k + 2) (omega arith) in
    rw (here, next, third) refl

-- all characters of a text

both : (c : ℕ) (cs : List ℕ) → all_scalars (c ∷ cs) ≡ true → IsScalar c × (all_scalars cs ≡ true)
both c cs is = grind arith

both_back : (c : ℕ) (cs : List ℕ) → IsScalar c → all_scalars cs ≡ true → all_scalars (c ∷ cs) ≡ true
both_back c cs here others = grind arith

xml_chars : (cs : List ℕ) → all_scalars cs ≡ true
    → ((k : ℕ) → k < length (encode_utf8_all cs) → forbidden_at (encode_utf8_all cs) k ≡ false) → All XmlChar cs
xml_chars [] scalars each = All-nil XmlChar
xml_chars (c ∷ cs) scalars each =
    let split = both c cs scalars in
    let long = long_enough c in
    let whole = length-append (encode_utf8 c) (encode_utf8_all cs) in
    All-cons XmlChar c cs (allowed c (encode_utf8_all cs) split.0 (each 0 (omega arith)))
    (xml_chars cs split.1 (λ k within. sym (past (encode_utf8 c) (encode_utf8_all cs) k) ∙ each (length (encode_utf8 c) + k) (omega arith)))

-- a prefix of characters of XML, and then another character
pub record FirstStop (cs : List ℕ) (at : ℕ) : Type 0 where
  front : List ℕ
  stop : ℕ
  back : List ℕ
  whole : cs ≡ front ++ stop ∷ back
  xml : All XmlChar front
  not_xml : is_xml_char stop ≡ false
  place : at ≡ length (encode_utf8_all front)

more_whole : (c : ℕ) (cs front back : List ℕ) → cs ≡ front ++ back → c ∷ cs ≡ (c ∷ front) ++ back
more_whole c cs front back e = ap (λ xs. c ∷ xs) e

first_stop : (cs : List ℕ) (at : ℕ) → all_scalars cs ≡ true → at < length (encode_utf8_all cs) → forbidden_at (encode_utf8_all cs) at ≡ true
    → ((k : ℕ) → k < at → forbidden_at (encode_utf8_all cs) k ≡ false) → FirstStop cs at
first_stop [] at scalars within is each = absurd (omega arith)
first_stop (c ∷ cs) at scalars within is each =
    let split = both c cs scalars in
    let long = long_enough c in
    let whole = length-append (encode_utf8 c) (encode_utf8_all cs) in
    elim (cases_eq at 0) as (λ _. FirstStop (c ∷ cs) at) [
      | inl none ↦ record {
        front = [];
        stop = c;
        back = cs;
        whole = refl;
        xml = All-nil XmlChar;
        not_xml = forbidden c (encode_utf8_all cs) (rw none at is);
        place = none;
      }
      | inr some ↦ elim (cases_lt at (length (encode_utf8 c))) as (λ _. FirstStop (c ∷ cs) at) [
        | inl short ↦ false_true (forbidden_at (encode_utf8_all (c ∷ cs)) at) is (inner c (encode_utf8_all cs) at split.0 (omega arith) short)
        | inr past_it ↦
            let more = first_stop cs (at - length (encode_utf8 c)) split.1 (omega arith)
            (sym (past (encode_utf8 c) (encode_utf8_all cs) (at - length (encode_utf8 c))) ∙ rw (add_back at (length (encode_utf8 c)) past_it) is)
            (λ k below. sym (past (encode_utf8 c) (encode_utf8_all cs) k) ∙ each (length (encode_utf8 c) + k) (omega arith)) in
            record {
              front = c ∷ more.front;
              stop = more.stop;
              back = more.back;
              whole = more_whole c cs more.front (more.stop ∷ more.back) more.whole;
              xml = All-cons XmlChar c more.front (allowed c (encode_utf8_all cs) split.0 (each 0 (omega arith))) more.xml;
              not_xml = more.not_xml;
              place = omega (arith, more.place, length-append (encode_utf8 c) (encode_utf8_all more.front));
            }
      ]
    ]

-- texts

-- a text without such a place is XML
pub utf8_is_xml : (bytes : List ℕ) → IsUtf8 bytes → ((k : ℕ) → k < length bytes → forbidden_at bytes k ≡ false) → IsXml bytes
utf8_is_xml bytes utf8 each =
    (utf8.0, AllWithin-from_all XmlChar utf8.0 (xml_chars utf8.0 utf8.1.0 (rw utf8.1.1 each)), utf8.1.1)

scalars_of : (cs : List ℕ) → All XmlChar cs → all_scalars cs ≡ true
scalars_of [] xml = refl
scalars_of (c ∷ cs) xml = both_back c cs (xml_is_scalar c (All-head XmlChar c cs xml)) (scalars_of cs (All-tail XmlChar c cs xml))

pub xml_is_utf8 : (bytes : List ℕ) → IsXml bytes → IsUtf8 bytes
xml_is_utf8 bytes xml = (xml.0, (scalars_of xml.0 (All-from_all_within XmlChar xml.0 xml.1), xml.2))

-- a prefix of XML, and then another character
pub record StopsAtChar (bytes : List ℕ) (at : ℕ) : Type 0 where
  stop : ℕ
  rest : List ℕ
  short : at < length bytes
  front : IsXml (take at bytes)
  not_xml : is_xml_char stop ≡ false
  here : drop at bytes ≡ encode_utf8 stop ++ rest

stops_at : (cs bytes : List ℕ) (at : ℕ) → encode_utf8_all cs ≡ bytes → FirstStop cs at → StopsAtChar bytes at
stops_at cs bytes at spelled first =
    let split : bytes ≡ encode_utf8_all first.front ++ (encode_utf8 first.stop ++ encode_utf8_all first.back) =
    sym spelled ∙ (ap encode_utf8_all first.whole ∙ encodes-append first.front (first.stop ∷ first.back)) in
    let long = long_enough first.stop in
    record {
      stop = first.stop;
      rest = encode_utf8_all first.back;
      short = rw split (omega (
        arith,
        first.place,
        length-append (encode_utf8_all first.front) (encode_utf8 first.stop ++ encode_utf8_all first.back),
        length-append (encode_utf8 first.stop) (encode_utf8_all first.back),
      ));
      front = (
        first.front,
        AllWithin-from_all XmlChar first.front first.xml,
        sym (rw split (take_at (encode_utf8_all first.front) (encode_utf8 first.stop ++ encode_utf8_all first.back) at (sym first.place))),
      );
      not_xml = first.not_xml;
      here = rw split (drop_at (encode_utf8_all first.front) (encode_utf8 first.stop ++ encode_utf8_all first.back) at (sym first.place));
    }

utf8_stops : (bytes : List ℕ) (at : ℕ) → IsUtf8 bytes → at < length bytes → forbidden_at bytes at ≡ true
    → ((k : ℕ) → k < at → forbidden_at bytes k ≡ false) → StopsAtChar bytes at
utf8_stops bytes at utf8 within is each =
    stops_at utf8.0 bytes at utf8.1.1 (first_stop utf8.0 at utf8.1.0 (rw utf8.1.1 within) (rw utf8.1.1 is) (rw utf8.1.1 each))

no_xml : (c d : ℕ) (r t : List ℕ) → is_xml_char c ≡ false → XmlChar d → encode_utf8 c ++ r ≡ encode_utf8 d ++ t → ⊥
no_xml c d r t not_xml xml e =
    let same : c ≡ d = (encode_same c d r t e).0 in
    grind (arith, same)

-- the first forbidden character isn't one of XML, whatever bytes follow it
pub no_xml_at_forbidden : (bytes : List ℕ) (valid at : ℕ) → valid ≤ length bytes → IsUtf8 (take valid bytes) → at < length (take valid bytes)
    → forbidden_at (take valid bytes) at ≡ true → ((k : ℕ) → k < at → forbidden_at (take valid bytes) k ≡ false) → IsNoXmlFrom bytes at
no_xml_at_forbidden bytes valid at in_bytes utf8 within is each =
    let stops = utf8_stops (take valid bytes) at utf8 within is each in
    let len : length (take valid bytes) ≡ valid = length-take-le valid bytes in_bytes in
    let le : at ≤ valid = omega arith in
    let rest_in : at ≤ length (take valid bytes) = omega arith in
    let whole : drop at bytes ≡ encode_utf8 stops.stop ++ (stops.rest ++ drop valid bytes) =
    ap (drop at) (sym (take-append-drop valid bytes)) ∙ (drop-append-le at (take valid bytes) (drop valid bytes) rest_in
    ∙ (ap (λ xs. xs ++ drop valid bytes) stops.here ∙ append_assoc (encode_utf8 stops.stop) stops.rest (drop valid bytes))) in
    record {
      short = omega arith;
      front = rw (← take-take at valid bytes le) stops.front;
      none = λ c rest xml starts. no_xml stops.stop c (stops.rest ++ drop valid bytes) rest stops.not_xml xml (sym whole ∙ starts);
    }

-- where the UTF-8 ends, no character begins
pub no_xml_past_valid : (bytes : List ℕ) (valid : ℕ) → IsValidUpTo bytes valid → IsXml (take valid bytes) → IsNoXmlFrom bytes valid
no_xml_past_valid bytes valid longest xml = record {
  short = longest.short;
  front = xml;
  none = λ c rest is starts.
      let len : ℕ = length (encode_utf8 c) in
      let long = long_enough c in
      let char : take len (drop valid bytes) ≡ encode_utf8 c = rw starts (take_at (encode_utf8 c) rest len refl) in
      let whole : take (valid + len) bytes ≡ take valid bytes ++ encode_utf8 c =
      sym (take-append-drop valid (take (valid + len) bytes))
      ∙ (ap (λ xs. xs ++ drop valid (take (valid + len) bytes)) (take-take valid (valid + len) bytes (omega arith))
      ∙ ap (λ xs. take valid bytes ++ xs) (drop-take valid len bytes ∙ char)) in
      longest.longest (valid + len) (omega arith) (rw whole (IsUtf8-append (take valid bytes) (encode_utf8 c) longest.front (IsUtf8-encode c (xml_is_scalar c is))));
}

-- if a text of characters has a prefix of characters, the rest begins with one of them
next_char : (ds cs rest : List ℕ) → All XmlChar ds → encode_utf8_all ds ≡ encode_utf8_all cs ++ rest → 0 < length rest
    → (c : ℕ) × (others : List ℕ) × XmlChar c × (rest ≡ encode_utf8 c ++ others)
next_char [] [] rest xml e some = absurd (omega (arith, ap length e))
next_char (d ∷ ds) [] rest xml e some = (d, encode_utf8_all ds, All-head XmlChar d ds xml, sym e)
next_char [] (c ∷ cs) rest xml e some =
    absurd (omega (arith, ap length e, length-append (encode_utf8_all (c ∷ cs)) rest))
next_char (d ∷ ds) (c ∷ cs) rest xml e some =
    next_char ds cs rest (All-tail XmlChar d ds xml)
    ((encode_same d c (encode_utf8_all ds) (encode_utf8_all cs ++ rest) (e ∙ append_assoc (encode_utf8 c) (encode_utf8_all cs) rest)).1) some

pub xml_has_no_stop : (bytes : List ℕ) (at : ℕ) → IsXml bytes → IsNoXmlFrom bytes at → ⊥
xml_has_no_stop bytes at xml stop =
    let short = stop.short in
    let rest : 0 < length (drop at bytes) = omega (arith, length-drop at bytes) in
    let next = next_char xml.0 stop.front.0 (drop at bytes) (All-from_all_within XmlChar xml.0 xml.1)
    (xml.2 ∙ (sym (take-append-drop at bytes) ∙ ap (λ xs. xs ++ drop at bytes) (sym stop.front.2))) rest in
    stop.none next.0 next.1 next.2 next.3

not_before : (bytes : List ℕ) (a b : ℕ) → IsNoXmlFrom bytes a → IsNoXmlFrom bytes b → a < b → ⊥
not_before bytes a b first second less =
    let short = second.short in
    let len : length (take b bytes) ≡ b = length-take-le b bytes (omega arith) in
    let rest_in : a ≤ length (take b bytes) = omega arith in
    xml_has_no_stop (take b bytes) a second.front (record {
      short = omega arith;
      front = rw (take-take a b bytes (omega arith)) first.front;
      none = λ c rest xml starts. first.none c (rest ++ drop b bytes) xml
          (ap (drop a) (sym (take-append-drop b bytes)) ∙ (drop-append-le a (take b bytes) (drop b bytes) rest_in
          ∙ (ap (λ xs. xs ++ drop b bytes) starts ∙ append_assoc (encode_utf8 c) rest (drop b bytes))));
    })

pub one_stop : (bytes : List ℕ) (a b : ℕ) → IsNoXmlFrom bytes a → IsNoXmlFrom bytes b → a ≡ b
one_stop bytes a b first second =
    elim (cases_lt a b) as (λ _. a ≡ b) [
      | inl less ↦ absurd (not_before bytes a b first second less)
      | inr rest ↦ elim (cases_lt b a) as (λ _. a ≡ b) [
        | inl more ↦ absurd (not_before bytes b a second first more)
        | inr same ↦ omega arith
      ]
    ]
