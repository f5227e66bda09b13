-- The contents of the parts of a package are disjoint cuts of its body.
use Rattle.std.proofs.Common.{◌≡◌, ℕ, zero, suc, ◌+◌, ◌≤◌, Bool, List, [], ◌∷◌, ◌++◌, Option, Some, None, Result, Ok, Err, length, length-append, length-drop, drop, arith, subst, inl, inr, refl, sym, ap, ◌∙◌}
use Rattle.std.specs.Prelude.{option_map, codes, not}
use Rattle.std.specs.List.{sum_by, list_any}
use Rattle.std.proofs.lemmas.Option.{same_Some}
use Rattle.std.proofs.lemmas.List.Sums.{sum_by-cons}
use Rattle.byte_forms.specs.Classes.{is_space}
use Rattle.byte_forms.specs.Cuts.{skip, strip_prefix}
use Rattle.byte_forms.proofs.CutLemmas.{cases_option, bind_some, length-skip, strip_prefix_takes}
use Rattle.mime_fields.specs.Fields.{PartValue, crlf, part_of}
use Rattle.mime_fields.specs.MediaTypes.{Parameter, MediaType, media_type_of, is_type, names_differ}
use Rattle.mime_package.specs.Reading.{PackageValue, parameter, is_envelope, boundary_of, line_end, delimiter_at, is_last_at, Ending, last, next, ending_at, up_to, max_parts, also, parts_within, parts_of, only_one, root_of, is_root, encoded_at, with_root, packaged, related, typed, package_of}
use Rattle.mime_package.specs.declared.read.MimeRefusal.{MimeRefusal}
use Rattle.mime_package.specs.declared.read.MimeRefusal.TheVariants.{BadPart}
use Rattle.coming_laws.proofs.ChoiceLemmas.{either, applied}
use Rattle.coming_laws.proofs.PartSizes.{content_size, part_size}

-- cuts

record IsCutAt {X : Type 0} (found : List ℕ → Option X) (bytes : List ℕ) (cut : List ℕ × X) : Type 0 where
  rest : List ℕ
  whole : length cut.0 + length rest ≡ length bytes
  here : found rest ≡ Some cut.1

up_to_here : {X : Type 0} (found : List ℕ → Option X) (b : ℕ) (bytes : List ℕ) (x : X) → found (b ∷ bytes) ≡ Some x → up_to found (b ∷ bytes) ≡ Some ([], x)
unfolding up_to
up_to_here found b bytes x is = rw (is, up_to) refl

up_to_later : {X : Type 0} (found : List ℕ → Option X) (b : ℕ) (bytes : List ℕ) → found (b ∷ bytes) ≡ None
    → up_to found (b ∷ bytes) ≡ option_map (λ cut. (b ∷ cut.0, cut.1)) (up_to found bytes)
unfolding up_to
up_to_later found b bytes none = rw (none, up_to) refl

cut_at : {X : Type 0} (found : List ℕ → Option X) (bytes : List ℕ) (cut : List ℕ × X) → up_to found bytes ≡ Some cut → IsCutAt found bytes cut
unfolding up_to
cut_at found [] cut e =
    applied (λ x. ([], x)) (found []) cut e λ x is same.
    record { rest = []; whole = omega (arith, ap (λ (y : List ℕ × _). length y.0) same); here = is ∙ ap (λ (y : List ℕ × _). Some y.1) same }
cut_at found (b ∷ bytes) cut e = elim (cases_option (found (b ∷ bytes))) [
  | inr some ↦
      let same = same_Some ([], some.0) cut (sym (up_to_here found b bytes some.0 some.1) ∙ e) in
      record { rest = b ∷ bytes; whole = omega (arith, ap (λ (y : List ℕ × _). length y.0) same); here = some.1 ∙ ap (λ (y : List ℕ × _). Some y.1) same }
  | inl none ↦
      applied (λ c. (b ∷ c.0, c.1)) (up_to found bytes) cut (sym (up_to_later found b bytes none) ∙ e) λ inner is same.
      let c = cut_at found bytes inner is in
      record {
        rest = c.rest;
        whole = omega (arith, c.whole, ap (λ (y : List ℕ × _). length y.0) same);
        here = c.here ∙ ap (λ (y : List ℕ × _). Some y.1) same;
      }
]

-- delimiters

line_end_size : (bytes rest : List ℕ) → line_end bytes ≡ Some rest → length rest ≤ length bytes
unfolding line_end
line_end_size bytes rest e =
    applied (λ more. skip is_space bytes) (strip_prefix crlf (skip is_space bytes)) rest e λ more here same.
    omega (arith, length-skip is_space bytes, ap (λ (l : List ℕ). length l) same)

-- at least a CRLF and two hyphens
delimiter_size : (boundary bytes rest : List ℕ) → delimiter_at boundary bytes ≡ Some rest → length rest + 4 ≤ length bytes
unfolding delimiter_at
delimiter_size boundary bytes rest e =
    bind_some (strip_prefix (crlf ++ (codes "--" ++ boundary)) bytes) _ rest e λ line here ends.
    omega (
      arith,
      ap (λ (l : List ℕ). length l) (strip_prefix_takes (crlf ++ (codes "--" ++ boundary)) bytes line here),
      length-append boundary line,
      line_end_size line rest ends,
    )

ending_size : (boundary bytes rest : List ℕ) → ending_at boundary bytes ≡ Some (next rest) → length rest ≤ length bytes
unfolding ending_at
ending_size boundary bytes rest e =
    either (is_last_at boundary bytes) _ _ (Some (next rest)) e (λ ends. absurd cc) (λ goes.
    applied next (delimiter_at boundary bytes) (next rest) goes λ found here same.
    let one : found ≡ rest = cc in omega (arith, delimiter_size boundary bytes found here, ap (λ (l : List ℕ). length l) one))

-- parts

abbrev pub contents : List PartValue → ℕ
contents parts = sum_by content_size parts

pub record AreWithin (most bytes : ℕ) (parts : List PartValue) : Type 0 where
  pub few : length parts ≤ most
  pub short : contents parts ≤ bytes

also_within : (most bytes here : ℕ) (part : PartValue) (r : Result (List PartValue) MimeRefusal) (parts : List PartValue) → content_size part + here ≤ bytes
    → ((others : List PartValue) → r ≡ Ok others → AreWithin most here others) → also part r ≡ Ok parts → AreWithin (suc most) bytes parts
also_within most bytes here part (Err refusal) parts fits within is = absurd cc
also_within most bytes here part (Ok others) parts fits within is =
    let same : part ∷ others ≡ parts = cc in
    let inner = within others refl in
    rw (← same) (record { few = omega (arith, inner.few); short = omega (arith, inner.short, sum_by-cons content_size part others) })

no_cut : (n index : ℕ) (boundary bytes : List ℕ) → up_to (ending_at boundary) bytes ≡ None → parts_within (suc n) index boundary bytes ≡ Err (BadPart index)
unfolding parts_within
no_cut n index boundary bytes none = rw (none, parts_within) refl

no_part : (n index : ℕ) (boundary bytes : List ℕ) (cut : List ℕ × Ending) → up_to (ending_at boundary) bytes ≡ Some cut → part_of (drop 2 cut.0) ≡ None
    → parts_within (suc n) index boundary bytes ≡ Err (BadPart index)
unfolding parts_within
no_part n index boundary bytes cut is none = rw (is, none, parts_within) refl

last_part : (n index : ℕ) (boundary bytes front : List ℕ) (part : PartValue) → up_to (ending_at boundary) bytes ≡ Some (front, last) → part_of (drop 2 front) ≡ Some part
    → parts_within (suc n) index boundary bytes ≡ Ok (part ∷ [])
unfolding parts_within
last_part n index boundary bytes front part is spelled = rw (is, spelled, parts_within) refl

more_parts : (n index : ℕ) (boundary bytes front rest : List ℕ) (part : PartValue) → up_to (ending_at boundary) bytes ≡ Some (front, next rest) → part_of (drop 2 front) ≡ Some part
    → parts_within (suc n) index boundary bytes ≡ also part (parts_within n (index + 1) boundary rest)
unfolding parts_within
more_parts n index boundary bytes front rest part is spelled = rw (is, spelled, parts_within) refl

parts_size : (n index : ℕ) (boundary bytes : List ℕ) (parts : List PartValue) → parts_within n index boundary bytes ≡ Ok parts → AreWithin n (length bytes) parts
unfolding parts_within
parts_size zero index boundary bytes parts e = absurd cc
parts_size (suc n) index boundary bytes parts e = elim (cases_option (up_to (ending_at boundary) bytes)) [
  | inl none ↦ let refused = no_cut n index boundary bytes none in absurd cc
  | inr cut ↦ elim (cases_option (part_of (drop 2 cut.0.0))) [
    | inl none ↦ let refused = no_part n index boundary bytes cut.0 cut.1 none in absurd cc
    | inr part ↦ by cut.0.1 cut.0.0 part.0 cut.1 part.1 e (λ rest. parts_size n (index + 1) boundary rest)
  ]
]
  where
    by : (ending : Ending) (front : List ℕ) (part : PartValue) → up_to (ending_at boundary) bytes ≡ Some (front, ending) → part_of (drop 2 front) ≡ Some part
        → parts_within (suc n) index boundary bytes ≡ Ok parts
        → ((rest : List ℕ) (others : List PartValue) → parts_within n (index + 1) boundary rest ≡ Ok others → AreWithin n (length rest) others)
        → AreWithin (suc n) (length bytes) parts
    by last front part is spelled e later =
        let same : part ∷ [] ≡ parts = let one = last_part n index boundary bytes front part is spelled in cc in
        let c = cut_at (ending_at boundary) bytes (front, last) is in
        rw (← same) (record { few = omega arith; short = omega (arith, c.whole, part_size (drop 2 front) part spelled, length-drop 2 front, sum_by-cons content_size part []) })
    by (next rest) front part is spelled e later =
        let c = cut_at (ending_at boundary) bytes (front, next rest) is in
        also_within n (length bytes) (length rest) part (parts_within n (index + 1) boundary rest) parts
        (omega (arith, c.whole, part_size (drop 2 front) part spelled, length-drop 2 front, ending_size boundary c.rest rest c.here))
        (later rest) (sym (more_parts n index boundary bytes front rest part is spelled) ∙ e)

body_size : (boundary body : List ℕ) (parts : List PartValue) → parts_of boundary body ≡ Ok parts → AreWithin max_parts (length body) parts
unfolding parts_of
body_size boundary body parts e = elim (cases_option (up_to (delimiter_at boundary) (crlf ++ body))) [
  | inl none ↦ let refused = rw (none, parts_of) at e in absurd cc
  | inr cut ↦
      let c = cut_at (delimiter_at boundary) (crlf ++ body) cut.0 cut.1 in
      let read = rw (cut.1, parts_of) at e in
      let inner = parts_size max_parts 0 boundary cut.0.1 parts read in
      record { few = inner.few; short = omega (arith, inner.short, c.whole, delimiter_size boundary c.rest cut.0.1 c.here) }
]

-- the root is taken out

only_one_within : (most bytes : ℕ) (is : PartValue → Bool) (parts : List PartValue) (found : PartValue × List PartValue) → only_one is parts ≡ Some found → AreWithin most bytes parts
    → (length found.1 ≤ length parts) × (contents found.1 ≤ contents parts)
unfolding only_one
only_one_within most bytes is [] found e within = absurd cc
only_one_within most bytes is (part ∷ parts) found e within =
    let sum = sum_by-cons content_size part parts in
    either (is part) _ _ (Some found) e
    (λ here. either (list_any is parts) _ _ (Some found) here (λ twice. absurd cc) (λ once.
    let same = ap (λ (x : PartValue × List PartValue). x.1) (same_Some (part, parts) found once) in
    (rw (← same) (omega arith), rw (← same) (omega arith))))
    (λ later. applied _ (only_one is parts) found later λ inner one same.
    let rest = ap (λ (x : PartValue × List PartValue). x.1) same in
    let smaller = only_one_within most bytes is parts inner one (record { few = omega (arith, within.few); short = omega (arith, within.short) }) in
    (rw (← rest) (omega (arith, smaller.0)), rw (← rest) (omega (arith, smaller.1, sum_by-cons content_size part inner.1))))

root_within : (most bytes : ℕ) (start : Option (List ℕ)) (parts : List PartValue) (found : PartValue × List PartValue) → root_of start parts ≡ Some found → AreWithin most bytes parts
    → AreWithin most bytes found.1
unfolding root_of
root_within most bytes None [] found e within = absurd cc
root_within most bytes None (part ∷ parts) found e within =
    let same = ap (λ (x : PartValue × List PartValue). x.1) (same_Some (part, parts) found e) in
    rw (← same) (record { few = omega (arith, within.few); short = omega (arith, within.short, sum_by-cons content_size part parts) })
root_within most bytes (Some start) parts found e within =
    let smaller = only_one_within most bytes _ parts found e within in
    record { few = omega (arith, smaller.0, within.few); short = omega (arith, smaller.1, within.short) }

with_root_parts : (parts : List PartValue) (found : PartValue × List PartValue) (whole : PackageValue) → with_root parts (Some found) ≡ Ok whole → found.1 ≡ whole.parts
with_root_parts parts found whole e =
    either (is_root found.0) _ _ (Ok whole) e
    (λ is. elim (cases_option (encoded_at 0 parts)) [
      | inl none ↦ let read = rw none at is in cc
      | inr some ↦ let refused = rw some.1 at is in absurd cc
    ])
    (λ other. absurd cc)

rooted : (bytes : ℕ) (start : Option (List ℕ)) (parts : List PartValue) (found : Option (PartValue × List PartValue)) (whole : PackageValue) → root_of start parts ≡ found
    → AreWithin max_parts bytes parts → with_root parts found ≡ Ok whole → AreWithin max_parts bytes whole.parts
rooted bytes start parts None whole is within e = absurd cc
rooted bytes start parts (Some found) whole is within e =
    subst (AreWithin max_parts bytes) (with_root_parts parts found whole e) (root_within max_parts bytes start parts found is within)

packaged_within : (bytes : ℕ) (start : Option (List ℕ)) (read : Result (List PartValue) MimeRefusal) (whole : PackageValue)
    → ((parts : List PartValue) → read ≡ Ok parts → AreWithin max_parts bytes parts) → packaged start read ≡ Ok whole → AreWithin max_parts bytes whole.parts
packaged_within bytes start (Err refusal) whole within e = absurd cc
packaged_within bytes start (Ok parts) whole within e = rooted bytes start parts (root_of start parts) whole refl (within parts refl) e

related_within : (parameters : List Parameter) (body : List ℕ) (whole : PackageValue) → related parameters body ≡ Ok whole → AreWithin max_parts (length body) whole.parts
unfolding related
related_within parameters body whole e = elim (cases_option (boundary_of parameters)) [
  | inl none ↦ let refused = rw (none, related) at e in absurd cc
  | inr boundary ↦
      let read = rw (boundary.1, related) at e in
      packaged_within (length body) (parameter (codes "start") parameters) (parts_of boundary.0 body) whole (body_size boundary.0 body) read
]

typed_within : (body : List ℕ) (m : MediaType) (whole : PackageValue) → typed body m ≡ Ok whole → AreWithin max_parts (length body) whole.parts
typed_within body m whole e =
    either (not (names_differ m.parameters)) _ _ (Ok whole) e (λ twice. absurd cc) (λ once.
    either (is_envelope m) _ _ (Ok whole) once
    (λ bare. let same : [] ≡ whole.parts = cc in rw (← same) (record { few = omega arith; short = omega arith }))
    (λ other. either (is_type (codes "multipart") (codes "related") m) _ _ (Ok whole) other (related_within m.parameters body whole) (λ none. absurd cc)))

pub package_within : (media body : List ℕ) (whole : PackageValue) → package_of media body ≡ Ok whole → AreWithin max_parts (length body) whole.parts
unfolding package_of
package_within media body whole e = elim (cases_option (media_type_of media)) [
  | inl none ↦ let refused = rw (none, package_of) at e in absurd cc
  | inr m ↦ let read = rw (m.1, package_of) at e in typed_within body m.0 whole read
]
