-- ASCII bytes that are characters of XML and mean themselves.
use Rattle.std.proofs.Common.{◌≡◌, ℕ, ◌<◌, Bool, true, false, ◌&&◌, List, [], ◌∷◌, Some, length, refl, ap, ◌∙◌, append-nil, arith}
use Rattle.std.proofs.lemmas.Bool.{and_parts, ltb-true}
use Rattle.std.proofs.lemmas.Bool.Decides.{nat_tests}
use Rattle.std.proofs.lemmas.List.{take_all, drop_all}
use Rattle.std.proofs.lemmas.List.Sums.{AllPass-from_list_all}
use Rattle.std.proofs.lemmas.List.Elements.{All-nil, All-cons, AllWithin-from_all}
use Rattle.std.proofs.lemmas.Str.Ascii.{encodes-IsAscii, IsAscii-from_all}
use Rattle.std.specs.Prelude.{IsTrue, nat_lt}
use Rattle.std.specs.List.{All, list_all, prefix_len}
use Rattle.as4_values.specs.Texts.{is_xml, is_xml_char}
use Rattle.as4_values.proofs.XmlTests.{xml_tested}
use Rattle.tree_reader.specs.Decoded.{is_plain, is_simple, pieces_meant, characters_meant}
use Rattle.tree_reader.proofs.TextLemmas.{plain_goes}

split_all : (bytes : List ℕ) → list_all (λ b. is_xml_char b && nat_lt b 128) bytes ≡ true → (list_all is_xml_char bytes ≡ true) × (list_all (λ b. nat_lt b 128) bytes ≡ true)
split_all [] all = (refl, refl)
split_all (b ∷ bytes) all =
    let split = and_parts (is_xml_char b && nat_lt b 128) (list_all (λ c. is_xml_char c && nat_lt c 128) bytes) all in
    let here = and_parts (is_xml_char b) (nat_lt b 128) split.0 in
    let others = split_all bytes split.1 in
    (rw (here.0, others.0) refl, rw (here.1, others.1) refl)

low_bytes : (bytes : List ℕ) → list_all (λ b. nat_lt b 128) bytes ≡ true → All (λ b. b < 128) bytes
low_bytes [] all = All-nil (λ b. b < 128)
low_bytes (b ∷ bytes) all =
    let split = and_parts (nat_lt b 128) (list_all (λ c. nat_lt c 128) bytes) all in
    All-cons (λ c. c < 128) b bytes (ltb-true b 128 split.0) (low_bytes bytes split.1)

-- ASCII bytes that are characters of XML
pub ascii_xml : (bytes : List ℕ) → list_all (λ b. is_xml_char b && nat_lt b 128) bytes ≡ true → is_xml bytes ≡ true
ascii_xml bytes all =
    let parts = split_all bytes all in
    xml_tested bytes (bytes, AllWithin-from_all (λ c. IsTrue (is_xml_char c)) bytes (AllPass-from_list_all is_xml_char bytes parts.0), encodes-IsAscii bytes (IsAscii-from_all bytes (low_bytes bytes parts.1)))

simple_char : (v : Bool) (b : ℕ) → is_simple v b ≡ true → (is_xml_char b && nat_lt b 128) ≡ true
simple_char true b is = grind (arith, nat_tests)
simple_char false b is = grind (arith, nat_tests)

simple_plain : (v : Bool) (b : ℕ) → is_simple v b ≡ true → is_plain v b ≡ true
simple_plain true b is = grind (arith, nat_tests)
simple_plain false b is = grind (arith, nat_tests)

simple_chars : (v : Bool) (bytes : List ℕ) → list_all (is_simple v) bytes ≡ true → list_all (λ b. is_xml_char b && nat_lt b 128) bytes ≡ true
simple_chars v [] all = refl
simple_chars v (b ∷ bytes) all =
    let split = and_parts (is_simple v b) (list_all (is_simple v) bytes) all in
    rw (simple_char v b split.0, simple_chars v bytes split.1) refl

simple_len : (v : Bool) (bytes : List ℕ) → list_all (is_simple v) bytes ≡ true → prefix_len (is_plain v) bytes ≡ length bytes
simple_len v [] all = refl
simple_len v (b ∷ bytes) all =
    let split = and_parts (is_simple v b) (list_all (is_simple v) bytes) all in
    rw (simple_plain v b split.0, simple_len v bytes split.1) (omega arith)

-- they mean themselves
pub simple_meant : (in_value : Bool) (bytes : List ℕ) → list_all (is_simple in_value) bytes ≡ true → characters_meant in_value bytes ≡ Some bytes
unfolding characters_meant pieces_meant
simple_meant v bytes all =
    let len = simple_len v bytes all in
    rw (ascii_xml bytes (simple_chars v bytes all)) (
    plain_goes v bytes
    ∙ rw (len, take_all (length bytes) bytes (omega arith), drop_all (length bytes) bytes (omega arith)) (ap (λ (xs : List ℕ). Some xs) (append-nil bytes)))
