-- Escaped bytes are characters of XML that mean the original bytes.
use Rattle.std.proofs.Common.{◌≡◌, ◌≢◌, inl, inr, ℕ, ◌+◌, ◌/◌, ◌%◌, ◌<◌, ◌≤◌, Bool, true, false, List, [], ◌∷◌, ◌++◌, Option, Some, length, refl, sym, ap, ◌∙◌, append-nil, arith, length-append}
use Rattle.std.proofs.lemmas.Bool.{cases_eq, cases_lt, and_parts, le-ltb, lt-ltb}
use Rattle.std.proofs.lemmas.Bool.Decides.{nat_tests}
use Rattle.std.proofs.lemmas.List.Concat.{flat_map-append}
use Rattle.std.proofs.lemmas.List.Elements.{All-nil, All-cons, All-head, All-tail, All-append, AllWithin-from_all, All-from_all_within}
use Rattle.std.proofs.lemmas.List.Sums.{AllPass-from_list_all}
use Rattle.std.proofs.lemmas.Str.{encodes-append}
use Rattle.std.proofs.lemmas.Str.Ascii.{encode_ascii}
use Rattle.std.specs.Prelude.{IsTrue, encode_utf8_all, codes, nat_le, take, position}
use Rattle.std.specs.List.{position_or_len, list_all, All, AllPass}
use Rattle.std.specs.Char.{encode_utf8}
use Rattle.as4_values.specs.Texts.{is_xml, is_xml_char, IsXml}
use Rattle.as4_values.proofs.XmlTests.{xml_tested, xml_found}
use Rattle.as4_envelope.specs.Markup.{escape_of, escaped}
use Rattle.xml_items.specs.Classes.{is_value_byte, is_text_byte}
use Rattle.byte_forms.specs.Cuts.{◌>>=◌}
use Rattle.tree_reader.specs.Steps.{with_front}
use Rattle.tree_reader.proofs.TextLemmas.{reference_piece}
use Rattle.tree_reader.specs.Decoded.{Piece, is_semicolon, entity, numbered, referred, reference_at, is_plain, piece_at, meant_behind, pieces_meant, characters_meant}

-- a byte that is escaped, or a byte that is unchanged
pub record Plain (b : ℕ) : Type 0 where
  pub amp : b ≢ 38
  pub less : b ≢ 60
  pub greater : b ≢ 62
  pub quote : b ≢ 34
  pub tab : b ≢ 9
  pub feed : b ≢ 10
  pub return : b ≢ 13

pub data Kind (b : ℕ) : Type 0 where
  amp : b ≡ 38 → Kind b
  less : b ≡ 60 → Kind b
  greater : b ≡ 62 → Kind b
  quote : b ≡ 34 → Kind b
  tab : b ≡ 9 → Kind b
  feed : b ≡ 10 → Kind b
  return : b ≡ 13 → Kind b
  plain : Plain b → Kind b

pub kind : (b : ℕ) → Kind b
kind b =
    elim (cases_eq b 38) as (λ _. Kind b) [
      | inl e ↦ amp e
      | inr n1 ↦
          elim (cases_eq b 60) as (λ _. Kind b) [
            | inl e ↦ less e
            | inr n2 ↦
                elim (cases_eq b 62) as (λ _. Kind b) [
                  | inl e ↦ greater e
                  | inr n3 ↦
                      elim (cases_eq b 34) as (λ _. Kind b) [
                        | inl e ↦ quote e
                        | inr n4 ↦
                            elim (cases_eq b 9) as (λ _. Kind b) [
                              | inl e ↦ tab e
                              | inr n5 ↦
                                  elim (cases_eq b 10) as (λ _. Kind b) [
                                    | inl e ↦ feed e
                                    | inr n6 ↦
                                        elim (cases_eq b 13) as (λ _. Kind b) [
                                          | inl e ↦ return e
                                          | inr n7 ↦
                                              plain (record { amp = n1; less = n2; greater = n3; quote = n4; tab = n5; feed = n6; return = n7 })
                                        ]
                                  ]
                            ]
                      ]
                ]
          ]
    ]

pub escape_plain : (b : ℕ) → Plain b → escape_of b ≡ b ∷ []
escape_plain b p = grind (arith, nat_tests, p.amp, p.less, p.greater, p.quote, p.tab, p.feed, p.return)

-- the meaning of an escape

is_plain_by : (v : Bool) (b : ℕ) → Plain b → is_plain v b ≡ true
is_plain_by true b p = grind (arith, nat_tests, p.amp, p.tab, p.feed, p.return)
is_plain_by false b p = grind (arith, nat_tests, p.amp, p.return)

plain_piece : (v : Bool) (b : ℕ) (rest : List ℕ) → is_plain v b ≡ true → meant_behind v 0 (b ∷ rest) ≡ with_front (b ∷ []) (meant_behind v 0 rest)
unfolding piece_at
plain_piece v b rest is = rw is refl

piece_meant : (v : Bool) (b : ℕ) (bytes : List ℕ) (p : Piece) → piece_at v b bytes ≡ Some p → meant_behind v 0 (b ∷ bytes) ≡ with_front p.meant (meant_behind v p.more bytes)
piece_meant v b bytes p is = ap (λ (o : Option Piece). o >>= λ q. with_front q.meant (meant_behind v q.more bytes)) is

abbrev some_piece : ℕ → ℕ → Option Piece
some_piece c at = Some (record { meant = encode_utf8 c; more = at + 1 })

pub position_at : (p : ℕ → Bool) (n : ℕ) (bytes : List ℕ) → n < length bytes → position_or_len p bytes ≡ n → position p bytes ≡ Some n
position_at p n bytes within is = rw (is, lt-ltb n (length bytes) within) refl

reference_by : (bytes : List ℕ) (n c : ℕ) → position is_semicolon bytes ≡ Some n → referred (take n bytes) ≡ Some c → reference_at bytes ≡ Some (record { meant = encode_utf8 c; more = n + 1 })
unfolding reference_at
reference_by bytes n c here is =
    ap (λ (o : Option ℕ). o >>= λ at. referred (take at bytes) >>= λ x. some_piece x at) here
    ∙ ap (λ (o : Option ℕ). o >>= λ x. some_piece x n) is

amp_referred : referred (97 ∷ 109 ∷ 112 ∷ []) ≡ Some 38
unfolding referred entity
amp_referred = refl

amp_reference : (rest : List ℕ) → reference_at (97 ∷ 109 ∷ 112 ∷ 59 ∷ rest) ≡ Some (record { meant = 38 ∷ []; more = 4 })
unfolding encode_utf8
amp_reference rest = reference_by (97 ∷ 109 ∷ 112 ∷ 59 ∷ rest) 3 38 (position_at is_semicolon 3 (97 ∷ 109 ∷ 112 ∷ 59 ∷ rest) (omega arith) refl) amp_referred

less_referred : referred (108 ∷ 116 ∷ []) ≡ Some 60
unfolding referred entity
less_referred = refl

less_reference : (rest : List ℕ) → reference_at (108 ∷ 116 ∷ 59 ∷ rest) ≡ Some (record { meant = 60 ∷ []; more = 3 })
unfolding encode_utf8
less_reference rest = reference_by (108 ∷ 116 ∷ 59 ∷ rest) 2 60 (position_at is_semicolon 2 (108 ∷ 116 ∷ 59 ∷ rest) (omega arith) refl) less_referred

greater_referred : referred (103 ∷ 116 ∷ []) ≡ Some 62
unfolding referred entity
greater_referred = refl

greater_reference : (rest : List ℕ) → reference_at (103 ∷ 116 ∷ 59 ∷ rest) ≡ Some (record { meant = 62 ∷ []; more = 3 })
unfolding encode_utf8
greater_reference rest = reference_by (103 ∷ 116 ∷ 59 ∷ rest) 2 62 (position_at is_semicolon 2 (103 ∷ 116 ∷ 59 ∷ rest) (omega arith) refl) greater_referred

quote_referred : referred (113 ∷ 117 ∷ 111 ∷ 116 ∷ []) ≡ Some 34
unfolding referred entity
quote_referred = refl

quote_reference : (rest : List ℕ) → reference_at (113 ∷ 117 ∷ 111 ∷ 116 ∷ 59 ∷ rest) ≡ Some (record { meant = 34 ∷ []; more = 5 })
unfolding encode_utf8
quote_reference rest = reference_by (113 ∷ 117 ∷ 111 ∷ 116 ∷ 59 ∷ rest) 4 34 (position_at is_semicolon 4 (113 ∷ 117 ∷ 111 ∷ 116 ∷ 59 ∷ rest) (omega arith) refl) quote_referred

tab_referred : referred (35 ∷ 57 ∷ []) ≡ Some 9
unfolding referred numbered
tab_referred = refl

tab_reference : (rest : List ℕ) → reference_at (35 ∷ 57 ∷ 59 ∷ rest) ≡ Some (record { meant = 9 ∷ []; more = 3 })
unfolding encode_utf8
tab_reference rest = reference_by (35 ∷ 57 ∷ 59 ∷ rest) 2 9 (position_at is_semicolon 2 (35 ∷ 57 ∷ 59 ∷ rest) (omega arith) refl) tab_referred

feed_referred : referred (35 ∷ 49 ∷ 48 ∷ []) ≡ Some 10
unfolding referred numbered
feed_referred = refl

feed_reference : (rest : List ℕ) → reference_at (35 ∷ 49 ∷ 48 ∷ 59 ∷ rest) ≡ Some (record { meant = 10 ∷ []; more = 4 })
unfolding encode_utf8
feed_reference rest = reference_by (35 ∷ 49 ∷ 48 ∷ 59 ∷ rest) 3 10 (position_at is_semicolon 3 (35 ∷ 49 ∷ 48 ∷ 59 ∷ rest) (omega arith) refl) feed_referred

return_referred : referred (35 ∷ 49 ∷ 51 ∷ []) ≡ Some 13
unfolding referred numbered
return_referred = refl

return_reference : (rest : List ℕ) → reference_at (35 ∷ 49 ∷ 51 ∷ 59 ∷ rest) ≡ Some (record { meant = 13 ∷ []; more = 4 })
unfolding encode_utf8
return_reference rest = reference_by (35 ∷ 49 ∷ 51 ∷ 59 ∷ rest) 3 13 (position_at is_semicolon 3 (35 ∷ 49 ∷ 51 ∷ 59 ∷ rest) (omega arith) refl) return_referred

escape_meant : (v : Bool) (b : ℕ) (rest : List ℕ) → Kind b → meant_behind v 0 (escape_of b ++ rest) ≡ with_front (b ∷ []) (meant_behind v 0 rest)
escape_meant v b rest (amp e) = rw e (piece_meant v 38 (97 ∷ 109 ∷ 112 ∷ 59 ∷ rest) (record { meant = 38 ∷ []; more = 4 }) (reference_piece v 38 (97 ∷ 109 ∷ 112 ∷ 59 ∷ rest) refl ∙ amp_reference rest))
escape_meant v b rest (less e) = rw e (piece_meant v 38 (108 ∷ 116 ∷ 59 ∷ rest) (record { meant = 60 ∷ []; more = 3 }) (reference_piece v 38 (108 ∷ 116 ∷ 59 ∷ rest) refl ∙ less_reference rest))
escape_meant v b rest (greater e) = rw e (piece_meant v 38 (103 ∷ 116 ∷ 59 ∷ rest) (record { meant = 62 ∷ []; more = 3 }) (reference_piece v 38 (103 ∷ 116 ∷ 59 ∷ rest) refl ∙ greater_reference rest))
escape_meant v b rest (quote e) = rw e (piece_meant v 38 (113 ∷ 117 ∷ 111 ∷ 116 ∷ 59 ∷ rest) (record { meant = 34 ∷ []; more = 5 }) (reference_piece v 38 (113 ∷ 117 ∷ 111 ∷ 116 ∷ 59 ∷ rest) refl ∙ quote_reference rest))
escape_meant v b rest (tab e) = rw e (piece_meant v 38 (35 ∷ 57 ∷ 59 ∷ rest) (record { meant = 9 ∷ []; more = 3 }) (reference_piece v 38 (35 ∷ 57 ∷ 59 ∷ rest) refl ∙ tab_reference rest))
escape_meant v b rest (feed e) = rw e (piece_meant v 38 (35 ∷ 49 ∷ 48 ∷ 59 ∷ rest) (record { meant = 10 ∷ []; more = 4 }) (reference_piece v 38 (35 ∷ 49 ∷ 48 ∷ 59 ∷ rest) refl ∙ feed_reference rest))
escape_meant v b rest (return e) = rw e (piece_meant v 38 (35 ∷ 49 ∷ 51 ∷ 59 ∷ rest) (record { meant = 13 ∷ []; more = 4 }) (reference_piece v 38 (35 ∷ 49 ∷ 51 ∷ 59 ∷ rest) refl ∙ return_reference rest))
escape_meant v b rest (plain p) =
    ap (λ (xs : List ℕ). meant_behind v 0 (xs ++ rest)) (escape_plain b p) ∙ plain_piece v b rest (is_plain_by v b p)

escaped_meant : (v : Bool) (xs : List ℕ) → meant_behind v 0 (escaped xs) ≡ Some xs
unfolding escaped
escaped_meant v [] = refl
escaped_meant v (b ∷ xs) = escape_meant v b (escaped xs) (kind b) ∙ ap (with_front (b ∷ [])) (escaped_meant v xs)

-- the bytes of escapes

escape_value : (b : ℕ) → Kind b → list_all (is_value_byte 34) (escape_of b) ≡ true
escape_value b (amp e) = rw e refl
escape_value b (less e) = rw e refl
escape_value b (greater e) = rw e refl
escape_value b (quote e) = rw e refl
escape_value b (tab e) = rw e refl
escape_value b (feed e) = rw e refl
escape_value b (return e) = rw e refl
escape_value b (plain p) = rw (escape_plain b p) (grind (arith, nat_tests, p.less, p.quote))

both_all : (class : ℕ → Bool) (xs ys : List ℕ) → list_all class xs ≡ true → list_all class ys ≡ true → list_all class (xs ++ ys) ≡ true
both_all class [] ys here others = others
both_all class (x ∷ xs) ys here others =
    let split = and_parts (class x) (list_all class xs) here in
    rw (split.0, both_all class xs ys split.1 others) refl

all_value : (xs : List ℕ) → list_all (is_value_byte 34) (escaped xs) ≡ true
unfolding escaped
all_value [] = refl
all_value (b ∷ xs) = both_all (is_value_byte 34) (escape_of b) (escaped xs) (escape_value b (kind b)) (all_value xs)

value_is_text : (bytes : List ℕ) → list_all (is_value_byte 34) bytes ≡ true → list_all is_text_byte bytes ≡ true
value_is_text [] all = refl
value_is_text (b ∷ bytes) all =
    let split = and_parts (is_value_byte 34 b) (list_all (is_value_byte 34) bytes) all in
    let here : is_text_byte b ≡ true = grind (arith, nat_tests, split.0) in
    rw (here, value_is_text bytes split.1) refl

-- escaped bytes contain neither a quote nor `<`
pub escaped_is_value : (xs : List ℕ) → AllPass (is_value_byte 34) (escaped xs)
escaped_is_value xs = AllPass-from_list_all (is_value_byte 34) (escaped xs) (all_value xs)

pub escaped_is_text : (xs : List ℕ) → AllPass is_text_byte (escaped xs)
escaped_is_text xs = AllPass-from_list_all is_text_byte (escaped xs) (value_is_text (escaped xs) (all_value xs))

escape_some : (b : ℕ) → Kind b → 0 < length (escape_of b)
escape_some b (amp e) = rw e (omega arith)
escape_some b (less e) = rw e (omega arith)
escape_some b (greater e) = rw e (omega arith)
escape_some b (quote e) = rw e (omega arith)
escape_some b (tab e) = rw e (omega arith)
escape_some b (feed e) = rw e (omega arith)
escape_some b (return e) = rw e (omega arith)
escape_some b (plain p) = rw (escape_plain b p) (omega arith)

pub escaped_some : (b : ℕ) (xs : List ℕ) → 0 < length (escaped (b ∷ xs))
unfolding escaped
escaped_some b xs = omega (arith, escape_some b (kind b), length-append (escape_of b) (escaped xs))

-- the characters of escapes

abbrev XmlChar : ℕ → Type 0
XmlChar c = IsTrue (is_xml_char c)

escape_chars : (c : ℕ) → XmlChar c → Kind c → All XmlChar (escape_of c)
escape_chars c is (amp e) = rw e (AllPass-from_list_all is_xml_char (codes "&amp;") refl)
escape_chars c is (less e) = rw e (AllPass-from_list_all is_xml_char (codes "&lt;") refl)
escape_chars c is (greater e) = rw e (AllPass-from_list_all is_xml_char (codes "&gt;") refl)
escape_chars c is (quote e) = rw e (AllPass-from_list_all is_xml_char (codes "&quot;") refl)
escape_chars c is (tab e) = rw e (AllPass-from_list_all is_xml_char (codes "&#9;") refl)
escape_chars c is (feed e) = rw e (AllPass-from_list_all is_xml_char (codes "&#10;") refl)
escape_chars c is (return e) = rw e (AllPass-from_list_all is_xml_char (codes "&#13;") refl)
escape_chars c is (plain p) = rw (escape_plain c p) (All-cons XmlChar c [] is (All-nil XmlChar))

escaped_chars : (cs : List ℕ) → All XmlChar cs → All XmlChar (escaped cs)
unfolding escaped
escaped_chars [] all = All-nil XmlChar
escaped_chars (c ∷ cs) all =
    All-append XmlChar (escape_of c) (escaped cs) (escape_chars c (All-head XmlChar c cs all) (kind c)) (escaped_chars cs (All-tail XmlChar c cs all))

-- the bytes of a character past ASCII
abbrev is_high : ℕ → Bool
is_high b = nat_le 128 b

high_plain : (b : ℕ) → 128 ≤ b → Plain b
high_plain b high = record { amp = λ e. omega arith; less = λ e. omega arith; greater = λ e. omega arith; quote = λ e. omega arith; tab = λ e. omega arith; feed = λ e. omega arith; return = λ e. omega arith }

high_same : (bytes : List ℕ) → list_all is_high bytes ≡ true → escaped bytes ≡ bytes
unfolding escaped
high_same [] all = refl
high_same (b ∷ bytes) all =
    let split = and_parts (is_high b) (list_all is_high bytes) all in
    let high : 128 ≤ b = grind (arith, nat_tests, split.0) in
    rw (escape_plain b (high_plain b high), high_same bytes split.1) refl

high_is : (b : ℕ) → 128 ≤ b → is_high b ≡ true
high_is b high = grind (arith, nat_tests)

two_high : (x y : ℕ) → list_all is_high ((192 + x) ∷ (128 + y) ∷ []) ≡ true
two_high x y = rw (high_is (192 + x) (omega arith), high_is (128 + y) (omega arith)) refl

three_high : (x y z : ℕ) → list_all is_high ((224 + x) ∷ (128 + y) ∷ (128 + z) ∷ []) ≡ true
three_high x y z = rw (high_is (224 + x) (omega arith), high_is (128 + y) (omega arith), high_is (128 + z) (omega arith)) refl

four_high : (x y z w : ℕ) → list_all is_high ((240 + x) ∷ (128 + y) ∷ (128 + z) ∷ (128 + w) ∷ []) ≡ true
four_high x y z w = rw (high_is (240 + x) (omega arith), high_is (128 + y) (omega arith), high_is (128 + z) (omega arith), high_is (128 + w) (omega arith)) refl

high_encoded : (c : ℕ) → 128 ≤ c → list_all is_high (encode_utf8 c) ≡ true
unfolding encode_utf8
high_encoded c high =
    elim (cases_lt c 2048) as (λ _. list_all is_high (encode_utf8 c) ≡ true) [
      | inl two ↦ rw (le-ltb c 128 high, lt-ltb c 2048 two) (two_high (c / 64) (c % 64))
      | inr more ↦ elim (cases_lt c 65536) as (λ _. list_all is_high (encode_utf8 c) ≡ true) [
        | inl three ↦ rw (le-ltb c 128 high, le-ltb c 2048 more, lt-ltb c 65536 three) (three_high (c / 4096) (c / 64 % 64) (c % 64))
        | inr four ↦ rw (le-ltb c 128 high, le-ltb c 2048 more, le-ltb c 65536 four) (four_high (c / 262144) (c / 4096 % 64) (c / 64 % 64) (c % 64))
      ]
    ]

low_escape : (c : ℕ) → c < 128 → escape_of c ≡ c ∷ [] → escaped (c ∷ []) ≡ encode_utf8_all (escape_of c)
unfolding escaped
low_escape c low same = append-nil (escape_of c) ∙ (same ∙ sym (ap encode_utf8_all same ∙ (append-nil (encode_utf8 c) ∙ encode_ascii c low)))

encoded_escape : (c : ℕ) → Kind c → escaped (encode_utf8 c) ≡ encode_utf8_all (escape_of c)
unfolding escaped encode_utf8
encoded_escape c (amp e) = rw e refl
encoded_escape c (less e) = rw e refl
encoded_escape c (greater e) = rw e refl
encoded_escape c (quote e) = rw e refl
encoded_escape c (tab e) = rw e refl
encoded_escape c (feed e) = rw e refl
encoded_escape c (return e) = rw e refl
encoded_escape c (plain p) =
    elim (cases_lt c 128) as (λ _. escaped (encode_utf8 c) ≡ encode_utf8_all (escape_of c)) [
      | inl low ↦ ap escaped (encode_ascii c low) ∙ low_escape c low (escape_plain c p)
      | inr high ↦ high_same (encode_utf8 c) (high_encoded c high) ∙ sym (rw (escape_plain c p) (append-nil (encode_utf8 c)))
    ]

escaped-append : (xs ys : List ℕ) → escaped (xs ++ ys) ≡ escaped xs ++ escaped ys
unfolding escaped
escaped-append xs ys = flat_map-append escape_of xs ys

nothing_escaped : encode_utf8_all (escaped []) ≡ escaped (encode_utf8_all [])
unfolding escaped
nothing_escaped = refl

escaped-cons : (c : ℕ) (cs : List ℕ) → escaped (c ∷ cs) ≡ escape_of c ++ escaped cs
unfolding escaped
escaped-cons c cs = refl

encoded_escaped : (cs : List ℕ) → encode_utf8_all (escaped cs) ≡ escaped (encode_utf8_all cs)
encoded_escaped [] = nothing_escaped
encoded_escaped (c ∷ cs) =
    ap encode_utf8_all (escaped-cons c cs)
    ∙ (encodes-append (escape_of c) (escaped cs)
    ∙ (ap (λ (xs : List ℕ). xs ++ encode_utf8_all (escaped cs)) (sym (encoded_escape c (kind c)))
    ∙ (ap (λ (xs : List ℕ). escaped (encode_utf8 c) ++ xs) (encoded_escaped cs) ∙ sym (escaped-append (encode_utf8 c) (encode_utf8_all cs)))))

escaped_xml : (bytes : List ℕ) → IsXml bytes → IsXml (escaped bytes)
escaped_xml bytes xml =
    (escaped xml.0, AllWithin-from_all XmlChar (escaped xml.0) (escaped_chars xml.0 (All-from_all_within XmlChar xml.0 xml.1)), encoded_escaped xml.0 ∙ ap escaped xml.2)

-- escaped bytes mean the original ones
pub escaped_characters : (in_value : Bool) (bytes : List ℕ) → is_xml bytes ≡ true → characters_meant in_value (escaped bytes) ≡ Some bytes
unfolding characters_meant pieces_meant
escaped_characters v bytes xml =
    let is : is_xml (escaped bytes) ≡ true = xml_tested (escaped bytes) (escaped_xml bytes (xml_found bytes xml)) in
    rw is (escaped_meant v bytes)
