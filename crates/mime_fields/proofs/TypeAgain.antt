-- A written media type is read back.
use Rattle.std.proofs.Common.{◌≡◌, ◌≢◌, ℕ, zero, suc, ◌≤◌, Bool, true, false, List, [], ◌∷◌, ◌++◌, length, map, Option, Some, option_map, All, refl, ap, subst, ◌∙◌, inl, inr, append_assoc, length-append, arith, ◌⊎◌, ◌==◌}
use Rattle.std.specs.Prelude.{IsTrue, ◌&&◌}
use Rattle.std.specs.List.{list_all, flat_map}
use Rattle.std.proofs.lemmas.Bool.{eqb-true, ne_eqb, and_parts, or_cases, false_from_ne_true}
use Rattle.std.proofs.lemmas.List.Folds.{list_all-append}
use Rattle.std.proofs.lemmas.List.Elements.{All-head, All-tail}
use Rattle.byte_forms.specs.Classes.{is_space}
use Rattle.byte_forms.proofs.CutLemmas.{Stops, IsRun, skip_again, run_again, strip_prefix_again}
use Rattle.mime_fields.specs.MediaTypes.{MediaType, is_token_byte, quoted_at, value_at, parameter_at, parameters_within, media_type_of}
use Rattle.mime_fields.specs.WrittenTypes.{QuotedByte, WrittenValue, token, quoted, WrittenParameter, WrittenType, quoted_text, value_text, parameter_text, type_text, value_meant, parameter_meant, type_meant, IsQuoted, IsValue, IsParameter, IsWritten, IsMediaType}
use Rattle.mime_fields.proofs.TypeTakes.{parameter_text-append, length-parameter_text}

-- ---- distinct classes

-- a fact about each space
of_spaces : (P : ℕ → Type 0) → P 32 → P 9 → (b : ℕ) → is_space b ≡ true → P b
of_spaces P s t b is = elim (or_cases (b == 32) (b == 9) is) [
  | inl e ↦ rw (eqb-true b 32 e) s
  | inr e ↦ rw (eqb-true b 9 e) t
]

space_no_token : (b : ℕ) → is_space b ≡ true → is_token_byte b ≡ false
space_no_token = of_spaces (λ b. is_token_byte b ≡ false) refl refl

token_no_space : (b : ℕ) → is_token_byte b ≡ true → is_space b ≡ false
token_no_space b is = false_from_ne_true (is_space b) (λ space. let no = space_no_token b space in cc)

token_no_quote : (b : ℕ) → is_token_byte b ≡ true → (b == 34) ≡ false
token_no_quote b is = false_from_ne_true (b == 34) (λ quote. let at : is_token_byte 34 ≡ true = subst (λ (y : ℕ). is_token_byte y ≡ true) (eqb-true b 34 quote) is in cc)

head_of_all : (class : ℕ → Bool) (b : ℕ) (bytes : List ℕ) → IsTrue (list_all class (b ∷ bytes)) → class b ≡ true
head_of_all class b bytes pass = (and_parts (class b) (list_all class bytes) pass).0

-- the first byte of a token is no space
token_stops : (front rest : List ℕ) → IsRun is_token_byte front → Stops is_space (front ++ rest)
token_stops [] rest run = absurd (omega (arith, run.0))
token_stops (b ∷ front) rest run = token_no_space b (head_of_all is_token_byte b front run.1)

-- the bytes after spaces don't continue a token
spaces_stop : (front rest : List ℕ) → IsTrue (list_all is_space front) → Stops is_token_byte rest → Stops is_token_byte (front ++ rest)
spaces_stop [] rest pass stops = stops
spaces_stop (b ∷ front) rest pass stops = space_no_token b (head_of_all is_space b front pass)

-- ---- values

quoted_ends : (rest : List ℕ) → quoted_at (34 ∷ rest) ≡ Some ([], rest)
unfolding quoted_at
quoted_ends [] = refl
quoted_ends (b ∷ rest) = refl

quoted_escaped : (b : ℕ) (bytes : List ℕ) → quoted_at (92 ∷ b ∷ bytes) ≡ option_map (λ more. (b ∷ more.0, more.1)) (quoted_at bytes)
unfolding quoted_at
quoted_escaped b bytes = refl

quoted_plain : (b : ℕ) (bytes : List ℕ) → b ≢ 34 → b ≢ 92 → quoted_at (b ∷ bytes) ≡ option_map (λ more. (b ∷ more.0, more.1)) (quoted_at bytes)
unfolding quoted_at
quoted_plain b [] no_quote no_slash = rw (ne_eqb b 34 no_quote) refl
quoted_plain b (c ∷ bytes) no_quote no_slash = rw (ne_eqb b 34 no_quote, ne_eqb b 92 no_slash) refl

one_quoted : (escaped : Bool) (byte : ℕ) (bytes : List ℕ) → (escaped ≡ true) ⊎ ((byte ≢ 34) × (byte ≢ 92)) → quoted_at (quoted_text (record { escaped = escaped; byte = byte }) ++ bytes) ≡ option_map (λ more. (byte ∷ more.0, more.1)) (quoted_at bytes)
one_quoted true byte bytes is = quoted_escaped byte bytes
one_quoted false byte bytes (inl is) = absurd cc
one_quoted false byte bytes (inr is) = quoted_plain byte bytes is.0 is.1

quoted_again : (parts : List QuotedByte) (rest : List ℕ) → All IsQuoted parts → quoted_at (flat_map quoted_text parts ++ (34 ∷ rest)) ≡ Some (map (λ q. q.byte) parts, rest)
quoted_again [] rest each = quoted_ends rest
quoted_again (q ∷ parts) rest each =
    ap quoted_at (append_assoc (quoted_text q) (flat_map quoted_text parts) (34 ∷ rest))
    ∙ one_quoted q.escaped q.byte (flat_map quoted_text parts ++ (34 ∷ rest)) (All-head IsQuoted q parts each)
    ∙ ap (λ (o : Option (List ℕ × List ℕ)). option_map (λ more. (q.byte ∷ more.0, more.1)) o) (quoted_again parts rest (All-tail IsQuoted q parts each))

token_again : (bytes rest : List ℕ) → IsRun is_token_byte bytes → Stops is_token_byte rest → value_at (bytes ++ rest) ≡ Some (bytes, rest)
unfolding value_at
token_again [] rest run stops = absurd (omega (arith, run.0))
token_again (b ∷ bytes) rest run stops =
    rw (token_no_quote b (head_of_all is_token_byte b bytes run.1)) (run_again is_token_byte (b ∷ bytes) rest run stops)

value_again : (v : WrittenValue) (rest : List ℕ) → IsValue v → Stops is_token_byte rest → value_at (value_text v ++ rest) ≡ Some (value_meant v, rest)
unfolding value_at
value_again (token bytes) rest is stops = token_again bytes rest is stops
value_again (quoted parts) rest is stops =
    ap quoted_at (append_assoc (flat_map quoted_text parts) (34 ∷ []) rest) ∙ quoted_again parts rest is

-- ---- parameters

parameter_again : (p : WrittenParameter) (rest : List ℕ) → IsParameter p → Stops is_token_byte rest → parameter_at (parameter_text p ++ rest) ≡ Some (parameter_meant p, rest)
unfolding parameter_at
parameter_again p rest is stops =
    let valued : List ℕ = value_text p.value ++ rest in
    let named : List ℕ = p.name ++ (61 ∷ valued) in
    rw (
      parameter_text-append p rest,
      skip_again is_space p.before (59 ∷ (p.after ++ named)) is.before refl,
      strip_prefix_again (59 ∷ []) (p.after ++ named),
      skip_again is_space p.after named is.after (token_stops p.name (61 ∷ valued) is.name),
      run_again is_token_byte p.name (61 ∷ valued) is.name refl,
      strip_prefix_again (61 ∷ []) valued,
      value_again p.value rest is.value stops,
    ) refl

-- parameters begin with spaces or `;`
parameters_stop : (ps : List WrittenParameter) (rest : List ℕ) → All IsParameter ps → Stops is_token_byte rest → Stops is_token_byte (flat_map parameter_text ps ++ rest)
parameters_stop [] rest each stops = stops
parameters_stop (p ∷ ps) rest each stops =
    let more : List ℕ = flat_map parameter_text ps ++ rest in
    let grouped : flat_map parameter_text (p ∷ ps) ++ rest ≡ p.before ++ (59 ∷ (p.after ++ (p.name ++ (61 ∷ (value_text p.value ++ (flat_map parameter_text ps ++ rest)))))) = append_assoc (parameter_text p) (flat_map parameter_text ps) rest ∙ parameter_text-append p more in
    rw grouped (spaces_stop p.before (59 ∷ (p.after ++ (p.name ++ (61 ∷ (value_text p.value ++ more))))) (All-head IsParameter p ps each).before refl)

blank_stops : (bytes : List ℕ) → IsTrue (list_all is_space bytes) → Stops is_token_byte bytes
blank_stops [] pass = tt
blank_stops (b ∷ bytes) pass = space_no_token b (head_of_all is_space b bytes pass)

beside_false : (b : Bool) → (b && false) ≡ false
beside_false true = refl
beside_false false = refl

-- bytes that contain `;` are not only spaces
no_blanks : (before rest : List ℕ) → list_all is_space (before ++ (59 ∷ rest)) ≡ false
no_blanks before rest = list_all-append is_space before (59 ∷ rest) ∙ beside_false (list_all is_space before)

parameters_again : (n : ℕ) (ps : List WrittenParameter) (after : List ℕ) → length ps ≤ n → All IsParameter ps → IsTrue (list_all is_space after) → parameters_within n (flat_map parameter_text ps ++ after) ≡ Some (map parameter_meant ps)
unfolding parameters_within
parameters_again zero [] after few each blank = rw blank refl
parameters_again (suc n) [] after few each blank = rw blank refl
parameters_again zero (p ∷ ps) after few each blank = absurd (omega arith)
parameters_again (suc n) (p ∷ ps) after few each blank =
    let more : List ℕ = flat_map parameter_text ps ++ after in
    let others = All-tail IsParameter p ps each in
    let some : list_all is_space (parameter_text p ++ more) ≡ false = ap (list_all is_space) (parameter_text-append p more) ∙ no_blanks p.before (p.after ++ (p.name ++ (61 ∷ (value_text p.value ++ more)))) in
    ap (parameters_within (suc n)) (append_assoc (parameter_text p) (flat_map parameter_text ps) after)
    ∙ rw (some, parameter_again p more (All-head IsParameter p ps each) (parameters_stop ps after others (blank_stops after blank)), parameters_again n ps after (omega arith) others blank) refl

length-parameters : (ps : List WrittenParameter) → length ps ≤ length (flat_map parameter_text ps)
length-parameters [] = omega arith
length-parameters (p ∷ ps) =
    omega (arith, length-append (parameter_text p) (flat_map parameter_text ps), length-parameter_text p, length-parameters ps)

-- ---- media types

-- a written media type is read back
pub type_again : (w : WrittenType) → IsWritten w → media_type_of (type_text w) ≡ Some (type_meant w)
unfolding media_type_of
type_again w is =
    let last : List ℕ = flat_map parameter_text w.parameters ++ w.after in
    let subkinded : List ℕ = w.subkind ++ last in
    let kinded : List ℕ = w.kind ++ (47 ∷ subkinded) in
    let len : length w.parameters ≤ length (type_text w) = omega (arith, length-parameters w.parameters, length-append w.before kinded, length-append w.kind (47 ∷ subkinded), length-append w.subkind last, length-append (flat_map parameter_text w.parameters) w.after) in
    rw (
      skip_again is_space w.before kinded is.before (token_stops w.kind (47 ∷ subkinded) is.kind),
      run_again is_token_byte w.kind (47 ∷ subkinded) is.kind refl,
      strip_prefix_again (47 ∷ []) subkinded,
      run_again is_token_byte w.subkind last is.subkind (parameters_stop w.parameters w.after is.parameters (blank_stops w.after is.after)),
      parameters_again (length (type_text w)) w.parameters w.after len is.parameters is.after,
    ) refl

pub written_is_read : (text : List ℕ) (m : MediaType) → IsMediaType text m → media_type_of text ≡ Some m
written_is_read text m is = ap media_type_of is.text_is ∙ type_again is.written is.is ∙ ap (λ (n : MediaType). Some n) is.means
