-- What each refusal of a package implies.
use Rattle.std.proofs.Common.{◌≡◌, ℕ, suc, ◌+◌, Bool, true, false, cond, List, [], ◌∷◌, ◌++◌, Option, Some, None, refl, sym, ap, subst, ◌∙◌, arith, inl, inr, not}
use Rattle.std.specs.Prelude.{Result, Ok, Err, IsTrue, codes, if◌then◌else◌}
use Rattle.std.proofs.lemmas.Bool.{cases_Bool}
use Rattle.std.proofs.lemmas.Option.{cond_some}
use Rattle.mime_fields.specs.Fields.{PartValue, crlf}
use Rattle.mime_fields.specs.MediaTypes.{MediaType, media_type_of, is_type, names_differ, Parameter}
use Rattle.mime_package.specs.declared.read.MimeRefusal.{MimeRefusal}
use Rattle.mime_package.specs.declared.read.MimeRefusal.TheVariants.{BadType, NoBoundary, BadPart, NoRoot, Encoding, NoMemory}
use Rattle.mime_package.specs.Encoded.{IsFirstEncoded, EncodedAt}
use Rattle.mime_package.specs.Reading.{PackageValue, is_boundary, is_envelope, boundary_of, parameter, delimiter_at, up_to, max_parts, parts_of, encoded_at, is_root, root_of, with_root, packaged, related, typed, package_of}
use Rattle.byte_forms.proofs.CutLemmas.{cases_option, bind_some}
use Rattle.mime_package.proofs.BreakLemmas.{refused_within}
use Rattle.mime_package.proofs.PartsLemmas.{no_delimiter, parts_behind}
use Rattle.mime_package.proofs.TakenLemmas.{cases_result, body_taken}

-- ---- the first part that is encoded

-- a part that isn't encoded, put before the others
one_further : (part : PartValue) (parts : List PartValue) (j : ℕ) → part.identity ≡ true → IsFirstEncoded parts j → IsFirstEncoded (part ∷ parts) (suc j)
one_further part parts j plain first = record {
  before = part ∷ first.before;
  part = first.part;
  behind = first.behind;
  parts_are = ap (λ (l : List PartValue). part ∷ l) first.parts_are;
  place = ap suc first.place;
  plain = rw plain first.plain;
  encoded = first.encoded;
}

-- counting from a given index
encoded_taken : (index : ℕ) (parts : List PartValue) (k : ℕ) → encoded_at index parts ≡ Some k → (j : ℕ) × (index + j ≡ k) × IsFirstEncoded parts j
unfolding encoded_at
encoded_taken index [] k e = absurd cc
encoded_taken index (part ∷ parts) k e = elim (cases_Bool part.identity) [
  | inr encoded ↦
      let here : encoded_at index (part ∷ parts) ≡ Some index = rw encoded refl in
      let same : index ≡ k = cc in
      (0, omega (arith, same), record { before = []; part = part; behind = parts; parts_are = refl; place = refl; plain = refl; encoded = ap not encoded })
  | inl plain ↦
      let next : encoded_at index (part ∷ parts) ≡ encoded_at (index + 1) parts = rw plain refl in
      let further = encoded_taken (index + 1) parts k (sym next ∙ e) in
      (suc further.0, omega (arith, further.1), one_further part parts further.0 plain further.2)
]

-- counting from 0
first_encoded : (parts : List PartValue) (k : ℕ) → encoded_at 0 parts ≡ Some k → IsFirstEncoded parts k
first_encoded parts k e =
    let taken = encoded_taken 0 parts k e in
    let same : taken.0 ≡ k = omega (arith, taken.1) in
    subst (λ j. IsFirstEncoded parts j) same taken.2

-- ---- what a refusal implies

-- a boundary that is named is valid
boundary_is : (parameters : List Parameter) (boundary : List ℕ) → boundary_of parameters ≡ Some boundary → IsTrue (is_boundary boundary)
unfolding boundary_of
boundary_is parameters boundary e =
    bind_some (parameter (codes "boundary") parameters) (λ value. if is_boundary value then Some value else None) boundary e λ value found chosen.
    let held = cond_some (is_boundary value) value boundary chosen in
    subst (λ (l : List ℕ). IsTrue (is_boundary l)) held.1 held.0

-- what a refusal implies about a media text and a body; it is never NoMemory
abbrev Tells : List ℕ → List ℕ → MimeRefusal → Type 0
Tells media body BadType = Unit {0}
Tells media body NoBoundary = Unit {0}
Tells media body (BadPart index) = Unit {0}
Tells media body NoRoot = Unit {0}
Tells media body (Encoding index) = EncodedAt media body index
Tells media body NoMemory = ⊥

-- by equality with a given refusal
told : {A : Type 0} (media body : List ℕ) (given e : MimeRefusal) → ◌≡◌ {A = Result A MimeRefusal} (Err given) (Err e) → Tells media body given → Tells media body e
told media body given e is held =
    let same : given ≡ e = cc in
    subst (λ r. Tells media body r) same held

-- by cases of a test
by_choice : {A P : Type 0} (b : Bool) (x y z : A) → cond b x y ≡ z → (x ≡ z → P) → (y ≡ z → P) → P
by_choice true x y z e f g = f e
by_choice false x y z e f g = g e

-- the result, given the first part that is encoded
abbrev answer : PackageValue → Option ℕ → Result PackageValue MimeRefusal
answer given o = elim o [
  | None ↦ Ok given
  | Some index ↦ Err (Encoding index)
]

-- parts whose root holds an envelope
rooted_tells : (media body : List ℕ) (given : PackageValue) (o : Option ℕ) (e : MimeRefusal) → answer given o ≡ Err e
    → ((k : ℕ) → o ≡ Some k → EncodedAt media body k) → Tells media body e
rooted_tells media body given None e is held = absurd cc
rooted_tells media body given (Some k) e is held = told media body (Encoding k) e is (held k refl)

-- parts of a body
root_tells : (media body : List ℕ) (parts : List PartValue) (found : Option (PartValue × List PartValue)) (e : MimeRefusal) → with_root parts found ≡ Err e
    → ((k : ℕ) → IsFirstEncoded parts k → EncodedAt media body k) → Tells media body e
root_tells media body parts None e is held = told media body NoRoot e is tt
root_tells media body parts (Some found) e is held =
    by_choice (is_root found.0) _ _ (Err e) is
    (λ rooted. rooted_tells media body (record { root = found.0.content; parts = found.1 }) (encoded_at 0 parts) e rooted (λ k at. held k (first_encoded parts k at)))
    (λ no. told media body NoRoot e no tt)

-- a body that isn't cut into parts
parts_tell : (media boundary body : List ℕ) (e : MimeRefusal) → parts_of boundary body ≡ Err e → Tells media body e
parts_tell media boundary body e is = elim (cases_option (up_to (delimiter_at boundary) (crlf ++ body))) [
  | inl none ↦ told media body NoBoundary e (sym (no_delimiter boundary body none) ∙ is) tt
  | inr cut ↦
      let bad = refused_within max_parts 0 boundary cut.0.1 e (sym (parts_behind boundary body cut.0 cut.1) ∙ is) in
      subst (λ r. Tells media body r) (sym bad.1) tt
]

-- a package
related_tells : (media body : List ℕ) (kind : MediaType) (e : MimeRefusal) → media_type_of media ≡ Some kind → related kind.parameters body ≡ Err e → Tells media body e
unfolding related
related_tells media body kind e media_is is = elim (cases_option (boundary_of kind.parameters)) [
  | inl none ↦ let no : related kind.parameters body ≡ Err NoBoundary = rw (none, related) refl in told media body NoBoundary e (sym no ∙ is) tt
  | inr named ↦
      let start = parameter (codes "start") kind.parameters in
      let same : related kind.parameters body ≡ packaged start (parts_of named.0 body) = rw (named.1, related) refl in
      elim (cases_result (parts_of named.0 body)) [
        | inr err ↦
            told media body err.0 e (sym (ap (packaged start) err.1) ∙ sym same ∙ is) (parts_tell media named.0 body err.0 err.1)
        | inl parts ↦
            root_tells media body parts.0 (root_of start parts.0) e (sym (ap (packaged start) parts.1) ∙ sym same ∙ is)
            (λ k first. record {
              kind = kind;
              media_is = media_is;
              boundary = named.0;
              named = named.1;
              parts = parts.0;
              has = body_taken named.0 body parts.0 (boundary_is kind.parameters named.0 named.1) parts.1;
              first = first;
            })
      ]
]

-- a media text and a body
tells : (media body : List ℕ) (e : MimeRefusal) → package_of media body ≡ Err e → Tells media body e
unfolding package_of
tells media body e is = elim (cases_option (media_type_of media)) [
  | inl none ↦ let no : package_of media body ≡ Err BadType = rw (none, package_of) refl in told media body BadType e (sym no ∙ is) tt
  | inr kind ↦
      let same : package_of media body ≡ typed body kind.0 = rw (kind.1, package_of) refl in
      by_choice (not (names_differ kind.0.parameters)) _ _ (Err e) (sym same ∙ is)
      (λ no. told media body BadType e no tt)
      (λ other. by_choice (is_envelope kind.0) _ _ (Err e) other (λ no. absurd cc)
      (λ more. by_choice (is_type (codes "multipart") (codes "related") kind.0) _ _ (Err e) more
      (λ refused. related_tells media body kind.0 e kind.1 refused)
      (λ no. told media body BadType e no tt)))
]

-- a part that is reported as encoded is the first encoded part
pub encoded_part : (media body : List ℕ) (k : ℕ) → package_of media body ≡ Err (Encoding k) → EncodedAt media body k
encoded_part media body k is = tells media body (Encoding k) is

-- no media text and body mean NoMemory
pub never_memory : (media body : List ℕ) → package_of media body ≡ Err NoMemory → ⊥
never_memory media body is = tells media body NoMemory is
