-- A field can carry the media text of a message, and the head of a response with it is short.
use Rattle.std.proofs.Common.{◌≡◌, ℕ, ◌≤◌, List, [], ◌∷◌, ◌++◌, true, length, reverse, refl, sym, append_assoc, arith, length-append, None, subst}
use Rattle.std.specs.Prelude.{Some, codes}
use Rattle.std.specs.List.{list_all}
use Rattle.std.proofs.lemmas.Fmt.{length-decimal-le}
use Rattle.std.proofs.lemmas.List.{reverse-append}
use Rattle.std.proofs.lemmas.List.Folds.{list_all-append}
use Rattle.std.proofs.lemmas.List.Sums.{AllPass-from_list_all}
use Rattle.httparse.proofs.TrimLemmas.{trim_ows_space}
use Rattle.httparse.specs.Grammar.{is_value_byte, skip_ows, trim_ows}
use Rattle.as4_http.specs.ReadBack.{IsMedia, IsWithinLimits}
use Rattle.as4_http.specs.Written.{fields_and_body, response_text}
use Rattle.as4_http.specs.declared.limits.TheConstants.{MAX_BODY}
use Rattle.as4_values.specs.declared.message.Message.{Message}
use Rattle.as4_values.specs.declared.message.Message.TheVariants as message
use Rattle.as4_values.specs.PlainTexts.{IsPlainText}
use Rattle.drill_texts.proofs.ModeLemmas.{word_is_plain}
use Rattle.drill_texts.specs.Modes.{drill_address}
use Rattle.message_model.specs.Package.{envelope_media, hex_digits, package_media}
use Rattle.message_model.specs.Wire.{IsWire}
use Rattle.package_laws.proofs.DigitLemmas.{digits_pass, length-hex_digits}

-- the address of both ends needs no escape
pub address_is_plain : IsPlainText drill_address
address_is_plain = word_is_plain drill_address refl

-- what a field carries, and how long it is at most
pub record IsShortMedia (media : List ℕ) : Type 0 where
  pub is : IsMedia media
  pub short : length media ≤ 200

front_stays : (media : List ℕ) → skip_ows media ≡ media → skip_ows (reverse media) ≡ reverse media → trim_ows media ≡ media
unfolding trim_ows
front_stays media front back = trim_ows_space media front back

envelope_short : IsShortMedia envelope_media
unfolding envelope_media
envelope_short = record {
  is = record { bytes = AllPass-from_list_all is_value_byte envelope_media refl; trimmed = front_stays envelope_media refl refl };
  short = omega arith;
}

-- the parts of a package's media text
abbrev front_of : List ℕ → List ℕ
front_of digits = codes "multipart/related; type=\"application/soap+xml\"; boundary=\"as4-" ++ digits ++ codes "\"; start=\"<root-" ++ digits

parts_pass : (digits : List ℕ) → list_all is_value_byte digits ≡ true → list_all is_value_byte (front_of digits ++ codes "@as4>\"") ≡ true
parts_pass digits pass = simp (list_all-append, pass)

-- a text whose last byte is a quotation mark
quoted_back : (front : List ℕ) → skip_ows (reverse (front ++ 34 ∷ [])) ≡ reverse (front ++ 34 ∷ [])
quoted_back front = rw (reverse-append front (34 ∷ [])) refl

package_short : (n : ℕ) → IsShortMedia (package_media n)
unfolding package_media
package_short n =
    let digits = hex_digits 16 n in
    let ends : front_of digits ++ codes "@as4>\"" ≡ (front_of digits ++ codes "@as4>") ++ 34 ∷ [] = sym (append_assoc (front_of digits) (codes "@as4>") (34 ∷ [])) in
    record {
      is = record {
        bytes = AllPass-from_list_all is_value_byte (front_of digits ++ codes "@as4>\"") (parts_pass digits (digits_pass is_value_byte refl 16 n));
        trimmed = front_stays (front_of digits ++ codes "@as4>\"") refl
            (subst (λ (t : List ℕ). skip_ows (reverse t) ≡ reverse t) (sym ends) (quoted_back (front_of digits ++ codes "@as4>")));
      };
      short = simp length-append (omega (arith, length-hex_digits 16 n));
    }

pub wire_is_short : (m : Message) (media body : List ℕ) → IsWire m media body → IsShortMedia media
wire_is_short (message.User header payloads) media body wire = rw wire.media_is (package_short wire.number)
wire_is_short (message.Signal s) media body wire = rw wire.media_is envelope_short
wire_is_short (message.Pair p) media body wire = rw wire.media_is envelope_short

-- the responses that are read back: with a message, and without

pub answer_within : (media body : List ℕ) → length media ≤ 200 → length body ≤ MAX_BODY → IsWithinLimits (response_text 200 (Some media) (codes "close") body) body
unfolding response_text fields_and_body
answer_within media body short few =
    let status = length-decimal-le 19 200 (omega arith) (omega arith) (omega arith) in
    let digits = length-decimal-le 19 (length body) (omega arith) (omega (arith, few)) (omega (arith, few)) in
    record { head = simp length-append (omega (arith, short, status, digits)); body = few }

pub quiet_within : IsWithinLimits (response_text 202 None (codes "close") []) []
unfolding response_text fields_and_body
quiet_within =
    let status = length-decimal-le 19 202 (omega arith) (omega arith) (omega arith) in
    let digits = length-decimal-le 19 0 (omega arith) (omega arith) (omega arith) in
    record { head = simp length-append (omega (arith, status, digits)); body = omega arith }

-- a body is no longer than its response
pub body_shorter : (media body : List ℕ) → length body ≤ length (response_text 200 (Some media) (codes "close") body)
unfolding response_text fields_and_body
body_shorter media body = simp length-append (omega arith)
