-- Characters of XML, as a relation and as a test.
use Rattle.std.proofs.Common.{◌≡◌, ℕ, zero, suc, List, [], ◌∷◌, Bool, true, false, not, Option, Some, None, length, refl, sym, arith}
use Rattle.std.proofs.lemmas.Bool.{and_parts, false_from_ne_true, false≢true}
use Rattle.std.proofs.lemmas.Bool.Decides.{nat_tests}
use Rattle.std.proofs.lemmas.Slice.Eq.{bytes_eq-Decides}
use Rattle.std.proofs.lemmas.Str.{chars-encodes}
use Rattle.std.specs.Prelude.{IsTrue, IsNone, ◌↔◌, encode_utf8_all}
use Rattle.std.specs.List.{AllWithin, list_all}
use Rattle.std.specs.Option.{is_some}
use Rattle.std.specs.Str.{bytes_eq, chars}
use Rattle.std.proofs.Math.Utf8.{scalars}
use Rattle.as4_values.specs.Texts.{IsXml, is_xml, is_xml_char}

-- characters of XML are characters
xml_is_scalar : (c : ℕ) → IsTrue (is_xml_char c) → scalars (c ∷ []) ≡ true
xml_is_scalar c xml = grind (arith, nat_tests)

scalars-cons : (c : ℕ) (cs : List ℕ) → scalars (c ∷ []) ≡ true → scalars cs ≡ true → scalars (c ∷ cs) ≡ true
scalars-cons c cs one more = rw (more) one

each_xml : (cs : List ℕ) → AllWithin (λ c. IsTrue (is_xml_char c)) cs 0 (length cs) → (list_all is_xml_char cs ≡ true) × (scalars cs ≡ true)
each_xml [] each = (refl, refl)
each_xml (c ∷ cs) each =
    let here : IsTrue (is_xml_char c) = each 0 0 (omega arith) (omega arith) in
    let more : (list_all is_xml_char cs ≡ true) × (scalars cs ≡ true) = each_xml cs (λ k d _ short. each (suc k) d (omega arith) (omega arith)) in
    (rw (here, more.0), scalars-cons c cs (xml_is_scalar c here) more.1)

all_xml : (cs : List ℕ) → list_all is_xml_char cs ≡ true → AllWithin (λ c. IsTrue (is_xml_char c)) cs 0 (length cs)
all_xml [] each k d low short = absurd (omega arith)
all_xml (c ∷ cs) each zero d low short = (and_parts (is_xml_char c) (list_all is_xml_char cs) each).0
all_xml (c ∷ cs) each (suc k) d low short = all_xml cs (and_parts (is_xml_char c) (list_all is_xml_char cs) each).1 k d (omega arith) (omega arith)

pub xml_tested : (bytes : List ℕ) → IsXml bytes → is_xml bytes ≡ true
unfolding is_xml
xml_tested bytes xml =
    let each : (list_all is_xml_char xml.0 ≡ true) × (scalars xml.0 ≡ true) = each_xml xml.0 xml.1 in
    let same : chars bytes ≡ xml.0 = rw xml.2 at (chars-encodes xml.0 each.1) in
    rw (same, each.0) ((bytes_eq-Decides (encode_utf8_all xml.0) bytes).1 xml.2)

pub xml_found : (bytes : List ℕ) → is_xml bytes ≡ true → IsXml bytes
unfolding is_xml
xml_found bytes tested =
    let parts : (list_all is_xml_char (chars bytes) ≡ true) × (bytes_eq (encode_utf8_all (chars bytes)) bytes ≡ true) = and_parts _ _ tested in
    (chars bytes, all_xml (chars bytes) parts.0, (bytes_eq-Decides (encode_utf8_all (chars bytes)) bytes).0 parts.1)

-- so the search for a wrong byte and the test agree
pub xml_told : (is : Bool) (wrong : Option ℕ) (bytes : List ℕ) → is_some wrong ≡ not is → (IsNone wrong ↔ IsXml bytes) → is ≡ is_xml bytes
xml_told true None bytes told same = sym (xml_tested bytes (same.0 refl))
xml_told false None bytes told same = absurd (false≢true told)
xml_told true (Some at) bytes told same = absurd (false≢true (sym told))
xml_told false (Some at) bytes told same = sym (false_from_ne_true (is_xml bytes) (λ is. false≢true (sym (same.1 (xml_found bytes is)))))
