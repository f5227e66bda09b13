-- The most bytes of an error signal about a submission.
use Rattle.std.proofs.Common.{◌≡◌, ℕ, ◌≤◌, List, [], ◌∷◌, ◌++◌, Bool, true, false, cond, ◌&&◌, Option, Some, None, find, length, length-append, arith, refl, subst}
use Rattle.std.specs.Prelude.{nat_le, ◌==◌, codes}
use Rattle.std.specs.List.{list_all}
use Rattle.std.specs.Option.{option_map}
use Rattle.std.proofs.lemmas.Bool.Decides.{nat_tests}
use Rattle.as4_codes.specs.ErrorCodes.{ErrorRow, error_row, error_table, error_item, code_text}
use Rattle.as4_envelope.specs.Markup.{attribute, optional_attribute, optional_element}
use Rattle.as4_values.specs.Moment.{digits}
use Rattle.as4_values.specs.declared.signal_body.Severity.{Severity}
use Rattle.as4_values.specs.declared.signal_body.Severity.TheVariants.{Failure, Warning}
use Rattle.as4_values.specs.declared.signal_body.SignalBody.{SignalBody}
use Rattle.as4_values.specs.declared.signal_body.SignalBody.TheVariants as body
use Rattle.message_model.specs.UnitText.{severity_text, error_start, error_text, body_text}
use Rattle.submitted_laws.proofs.MarkupLengths.{IsWithin, length-element, attribute_within, optional_attribute_within}

-- the item that is found passes a test that every item passes
found_passes : {X : Type 0} (test good : X → Bool) (xs : List X) (x : X) → list_all good xs ≡ true → find test xs ≡ Some x → good x ≡ true
found_passes test good (y ∷ ys) x each found =
    let first : good y ≡ true = grind (arith, nat_tests) in
    let others : list_all good ys ≡ true = grind (arith, nat_tests) in
    (elim (test y) as (λ b. cond b (Some y) (find test ys) ≡ Some x → good x ≡ true) [
      | true ↦ λ is. cc
      | false ↦ λ is. found_passes test good ys x others is
    ]) found
found_passes test good [] x each found = absurd cc

abbrev is_short_row : ErrorRow → Bool
is_short_row row = nat_le (length row.short) 28 && nat_le (length row.category) 13

-- the texts of a row of the table
record IsShortRow (row : ErrorRow) : Type 0 where
  short : length row.short ≤ 28
  category : length row.category ≤ 13

row_is_short : (code : ℕ) (row : ErrorRow) → error_row code ≡ Some row → IsShortRow row
unfolding error_row error_table
row_is_short code row found =
    let passes : is_short_row row ≡ true = found_passes (λ r. r.code == code) is_short_row error_table row refl found in
    record { short = grind (arith, nat_tests); category = grind (arith, nat_tests) }

length-code_text : (code : ℕ) → length (code_text code) ≡ 9
unfolding code_text digits
length-code_text code = refl

severity_within : (s : Severity) → length (severity_text s) ≤ 7
severity_within Failure = omega arith
severity_within Warning = omega arith

no_element : (name : List ℕ) → length (optional_element name None) ≡ 0
unfolding optional_element
no_element name = refl

no_attribute : (name : List ℕ) → length (optional_attribute name None) ≡ 0
unfolding optional_attribute
no_attribute name = refl

-- the attributes of an error about a message with an identifier of at most 61 bytes
start_within : (row : ErrorRow) (about : Option (List ℕ)) → IsShortRow row → IsWithin 61 about → length (error_start (error_item row about)) ≤ 788
unfolding error_start
start_within row about is refers =
    let code : List ℕ = attribute (codes "errorCode") (code_text row.code) in
    let severity : List ℕ = attribute (codes "severity") (severity_text row.severity) in
    let origin : List ℕ = optional_attribute (codes "origin") None in
    let category : List ℕ = optional_attribute (codes "category") (Some row.category) in
    let message : List ℕ = optional_attribute (codes "refToMessageInError") about in
    let short : List ℕ = optional_attribute (codes "shortDescription") (Some row.short) in
    omega (
      arith,
      length-append (code ++ severity ++ origin ++ category ++ message) short,
      length-append (code ++ severity ++ origin ++ category) message,
      length-append (code ++ severity ++ origin) category,
      length-append (code ++ severity) origin,
      length-append code severity,
      attribute_within (codes "errorCode") (code_text row.code),
      length-code_text row.code,
      attribute_within (codes "severity") (severity_text row.severity),
      severity_within row.severity,
      no_attribute (codes "origin"),
      optional_attribute_within (codes "category") (Some row.category) 13 is.category,
      optional_attribute_within (codes "refToMessageInError") about 61 refers,
      optional_attribute_within (codes "shortDescription") (Some row.short) 28 is.short,
    )

error_within : (row : ErrorRow) (about : Option (List ℕ)) → IsShortRow row → IsWithin 61 about → length (error_text (error_item row about)) ≤ 809
unfolding error_text
error_within row about is refers =
    let description : List ℕ = optional_element (codes "eb:Description") None in
    let detail : List ℕ = optional_element (codes "eb:ErrorDetail") None in
    omega (
      arith,
      length-element (codes "eb:Error") (error_start (error_item row about)) (description ++ detail),
      length-append description detail,
      no_element (codes "eb:Description"),
      no_element (codes "eb:ErrorDetail"),
      start_within row about is refers,
    )

errors_of : (found : Option ErrorRow) (about : Option (List ℕ)) (b : SignalBody) → ((row : ErrorRow) → found ≡ Some row → IsShortRow row) → IsWithin 61 about
    → option_map (λ row. body.Errors (error_item row about ∷ [])) found ≡ Some b → length (body_text b) ≤ 809
errors_of None about b short refers tells = absurd cc
errors_of (Some row) about b short refers tells =
    let is : body.Errors (error_item row about ∷ []) ≡ b = cc in
    let text : List ℕ = error_text (error_item row about) in
    subst (λ (x : SignalBody). length (body_text x) ≤ 809) is (omega (arith, length-append text [], error_within row about (short row refl) refers))

-- the body of an error signal
pub errors_within : (code : ℕ) (about : Option (List ℕ)) (b : SignalBody) → IsWithin 61 about
    → option_map (λ row. body.Errors (error_item row about ∷ [])) (error_row code) ≡ Some b → length (body_text b) ≤ 809
errors_within code about b refers tells = errors_of (error_row code) about b (row_is_short code) refers tells
