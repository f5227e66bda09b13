-- The media text of a package is read as intended: its boundary, and the Content-ID of its root.
use Rattle.std.proofs.Common.{◌≡◌, ℕ, ◌-◌, Bool, true, false, not, List, [], ◌∷◌, ◌++◌, length, map, take, Some, refl, sym, ap, ◌∙◌, arith, inr, append_assoc, length-append, nat_eq}
use Rattle.std.specs.Prelude.{IsTrue, All, ◌&&◌, ◌==◌, codes}
use Rattle.std.specs.List.{list_all, flat_map, ends_with}
use Rattle.std.proofs.lemmas.Bool.{and_parts, not-true, eqb-false, false_from_ne_true, lt-ltb, le-leb}
use Rattle.std.proofs.lemmas.Bool.Decides.{Decides-eqb}
use Rattle.std.proofs.lemmas.List.Elements.{All-from_recursion, All-map, All-weaker}
use Rattle.std.proofs.lemmas.List.Folds.{list_all-append}
use Rattle.std.proofs.lemmas.List.Sums.{AllPass-from_list_all}
use Rattle.std.proofs.lemmas.Slice.Eq.{ends_is}
use Rattle.message_model.specs.Package.{hex_digits, root_id, package_media}
use Rattle.mime_fields.specs.MediaTypes.{MediaType, media_type_of}
use Rattle.mime_fields.specs.WrittenTypes.{QuotedByte, quoted, WrittenParameter, WrittenType, quoted_text, parameter_text, type_text, type_meant, IsQuoted, IsToken, IsParameter, IsWritten}
use Rattle.mime_fields.proofs.TypeAgain.{written_is_read}
use Rattle.mime_package.specs.Reading.{is_boundary, is_boundary_byte}
use Rattle.package_laws.proofs.DigitLemmas.{HasDigits, digits_pass, length-hex_digits}
use Rattle.package_laws.proofs.PieceLemmas.{boundary}
use Rattle.package_laws.proofs.ValueLemmas.{bracketed}

-- the bytes of a root's Content-ID belong to each class that contains them
pub root_passes : (class : ℕ → Bool) → HasDigits class → IsTrue (list_all class (codes "root-")) → IsTrue (list_all class (codes "@as4")) → (n : ℕ) → list_all class (root_id n) ≡ true
unfolding root_id
root_passes class digits front back n =
    list_all-append class (codes "root-" ++ hex_digits 16 n) (codes "@as4")
    ∙ rw (list_all-append class (codes "root-") (hex_digits 16 n), front, digits_pass class digits 16 n, back) refl

-- ---- quoted strings without a backslash

abbrev is_plain : ℕ → Bool
is_plain b = not (b == 34) && not (b == 92)

abbrev plain : ℕ → QuotedByte
plain b = record { escaped = false; byte = b }

plain_text : (bytes : List ℕ) → flat_map quoted_text (map plain bytes) ≡ bytes
plain_text [] = refl
plain_text (b ∷ bytes) = ap (λ (r : List ℕ). b ∷ r) (plain_text bytes)

plain_meant : (bytes : List ℕ) → map (λ q. q.byte) (map plain bytes) ≡ bytes
plain_meant [] = refl
plain_meant (b ∷ bytes) = ap (λ (r : List ℕ). b ∷ r) (plain_meant bytes)

plain_is : (b : ℕ) → is_plain b ≡ true → IsQuoted (plain b)
plain_is b is =
    let both = and_parts (not (b == 34)) (not (b == 92)) is in
    inr (eqb-false b 34 (not-true (b == 34) both.0), eqb-false b 92 (not-true (b == 92) both.1))

all_plain : (bytes : List ℕ) → list_all is_plain bytes ≡ true → All IsQuoted (map plain bytes)
all_plain bytes pass =
    All-map IsQuoted plain bytes (All-weaker (λ b. is_plain b ≡ true) (λ b. IsQuoted (plain b)) plain_is bytes (AllPass-from_list_all is_plain bytes pass))

-- ---- parameters

abbrev parameter : List ℕ → List ℕ → WrittenParameter
parameter name value = record { before = []; after = 32 ∷ []; name = name; value = quoted (map plain value) }

is_parameter : (name value : List ℕ) → IsToken name → list_all is_plain value ≡ true → IsParameter (parameter name value)
is_parameter name value named pass = record { before = refl; after = refl; name = named; value = all_plain value pass }

parameter_is : (name value : List ℕ) (others : List WrittenParameter) (rest : List ℕ)
    → flat_map parameter_text (parameter name value ∷ others) ++ rest ≡ (59 ∷ 32 ∷ name) ++ (61 ∷ 34 ∷ (value ++ (34 ∷ (flat_map parameter_text others ++ rest))))
parameter_is name value others rest = rw (plain_text value) (regroup name value (flat_map parameter_text others))
  where
    regroup : (name value others : List ℕ) → ((59 ∷ 32 ∷ (name ++ (61 ∷ 34 ∷ (value ++ 34 ∷ [])))) ++ others) ++ rest ≡ (59 ∷ 32 ∷ name) ++ (61 ∷ 34 ∷ (value ++ (34 ∷ (others ++ rest))))
    regroup name value others = simp append_assoc

-- ---- the media type

abbrev written : ℕ → WrittenType
written n = record {
  before = [];
  kind = codes "multipart";
  subkind = codes "related";
  parameters = parameter (codes "type") (codes "application/soap+xml") ∷ parameter (codes "boundary") (boundary n) ∷ parameter (codes "start") (bracketed (root_id n)) ∷ [];
  after = [];
}

-- its meaning
abbrev pub package_type : ℕ → MediaType
package_type n = record {
  kind = codes "multipart";
  subkind = codes "related";
  parameters = record { name = codes "type"; value = codes "application/soap+xml" } ∷ record { name = codes "boundary"; value = boundary n } ∷ record { name = codes "start"; value = bracketed (root_id n) } ∷ [];
}

root_plain : (n : ℕ) → list_all is_plain (bracketed (root_id n)) ≡ true
root_plain n = list_all-append is_plain (root_id n) (62 ∷ []) ∙ rw (root_passes is_plain refl refl refl n) refl

is_written : (n : ℕ) → IsWritten (written n)
is_written n = record {
  before = refl;
  kind = (omega arith, refl);
  subkind = (omega arith, refl);
  parameters = All-from_recursion IsParameter (written n).parameters (
    is_parameter (codes "type") (codes "application/soap+xml") (omega arith, refl) refl,
    (
      is_parameter (codes "boundary") (boundary n) (omega arith, refl) (digits_pass is_plain refl 16 n),
      (is_parameter (codes "start") (bracketed (root_id n)) (omega arith, refl) (root_plain n), tt),
    ),
  );
  after = refl;
}

means : (n : ℕ) → type_meant (written n) ≡ package_type n
means n = rw (plain_meant (codes "application/soap+xml"), plain_meant (boundary n), plain_meant (bracketed (root_id n))) refl

text_is : (n : ℕ) → package_media n ≡ type_text (written n)
unfolding package_media root_id
text_is n =
    let start : List WrittenParameter = parameter (codes "start") (bracketed (root_id n)) ∷ [] in
    let third = parameter_is (codes "start") (bracketed (root_id n)) [] [] ∙ ap (λ (r : List ℕ). codes "; start=\"<root-" ++ r) (end_grouped (hex_digits 16 n)) in
    let second = parameter_is (codes "boundary") (boundary n) start [] ∙ ap (λ (r : List ℕ). codes "; boundary=\"" ++ (boundary n ++ (34 ∷ r))) third in
    let first =
    parameter_is (codes "type") (codes "application/soap+xml") (parameter (codes "boundary") (boundary n) ∷ start) []
    ∙ ap (λ (r : List ℕ). codes "; type=\"application/soap+xml\"" ++ r) second in
    package_grouped (codes "multipart/related; type=\"application/soap+xml\"; boundary=\"as4-") (hex_digits 16 n) (codes "\"; start=\"<root-") (codes "@as4>\"")
    ∙ sym (ap (λ (r : List ℕ). codes "multipart/related" ++ r) first)
  where
    package_grouped : (a d b c : List ℕ) → a ++ d ++ b ++ d ++ c ≡ a ++ (d ++ (b ++ (d ++ c)))
    package_grouped a d b c = simp append_assoc

    end_grouped : (d : List ℕ) → ((d ++ codes "@as4") ++ 62 ∷ []) ++ 34 ∷ [] ≡ d ++ codes "@as4>\""
    end_grouped d = simp append_assoc

pub media_again : (n : ℕ) → media_type_of (package_media n) ≡ Some (package_type n)
media_again n = written_is_read (package_media n) (package_type n) (record { written = written n; is = is_written n; text_is = text_is n; means = means n })

-- ---- the boundary

no_space_ends : (bytes : List ℕ) → list_all (λ b. not (b == 32)) bytes ≡ true → ends_with nat_eq bytes (codes " ") ≡ false
no_space_ends bytes other =
    false_from_ne_true (ends_with nat_eq bytes (codes " ")) λ ends.
    let whole = (ends_is Decides-eqb bytes (32 ∷ []) (ends_with nat_eq bytes (codes " ")) refl).0 ends in
    let front : List ℕ = take (length bytes - 1) bytes in
    let split : list_all (λ b. not (b == 32)) bytes ≡ (list_all (λ b. not (b == 32)) front && false) = ap (list_all (λ b. not (b == 32))) whole ∙ list_all-append (λ b. not (b == 32)) front (32 ∷ []) in
    let both = and_parts (list_all (λ b. not (b == 32)) front) false (sym split ∙ other) in
    absurd cc

pub boundary_is : (n : ℕ) → is_boundary (boundary n) ≡ true
unfolding is_boundary
boundary_is n =
    let len : length (boundary n) ≡ 20 = omega (arith, length-append (codes "as4-") (hex_digits 16 n), length-hex_digits 16 n) in
    rw (
      lt-ltb 0 (length (boundary n)) (omega (arith, len)),
      le-leb (length (boundary n)) 70 (omega (arith, len)),
      no_space_ends (boundary n) (digits_pass (λ b. not (b == 32)) refl 16 n),
      digits_pass is_boundary_byte refl 16 n,
    ) refl
