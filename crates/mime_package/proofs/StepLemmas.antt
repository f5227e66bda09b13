-- The parts after a delimiter, as a loop reads them.
use Rattle.std.proofs.Common.{◌≡◌, ℕ, suc, ◌+◌, ◌-◌, ◌<◌, List, [], ◌∷◌, ◌++◌, Option, Some, None, drop, refl, sym, ap, ◌∙◌, arith, inl, inr, append_assoc}
use Rattle.std.specs.Prelude.{Result, Ok, Err, option_map, unwrap_or}
use Rattle.byte_forms.proofs.CutLemmas.{cases_option}
use Rattle.mime_fields.specs.Fields.{PartValue, part_of}
use Rattle.mime_package.specs.declared.read.MimeRefusal.{MimeRefusal}
use Rattle.mime_package.specs.declared.read.MimeRefusal.TheVariants.{BadPart}
use Rattle.mime_package.specs.Reading.{Ending, last, next, ending_at, up_to, max_parts, also, parts_within}
use Rattle.mime_package.specs.Steps.{part_at, with_part}

-- parts put before those that are read after them
abbrev pub before : List PartValue → Result (List PartValue) MimeRefusal → Result (List PartValue) MimeRefusal
before front (Ok parts) = Ok (front ++ parts)
before front (Err refusal) = Err refusal

-- the parts, given the first of them
abbrev from_part : ℕ → ℕ → List ℕ → Option (PartValue × Ending) → Result (List PartValue) MimeRefusal
from_part n index boundary None = Err (BadPart index)
from_part n index boundary (Some x) = elim x.1 [
  | last ↦ Ok (x.0 ∷ [])
  | next rest ↦ also x.0 (parts_within n (index + 1) boundary rest)
]

-- both definitions agree
by_part : (n index : ℕ) (boundary bytes : List ℕ) → parts_within (suc n) index boundary bytes ≡ from_part n index boundary (part_at boundary bytes)
unfolding parts_within part_at
by_part n index boundary bytes = elim (cases_option (up_to (ending_at boundary) bytes)) [
  | inl none ↦ rw (none, parts_within) refl
  | inr cut ↦ elim (cases_option (part_of (drop 2 cut.0.0))) [
    | inl none ↦ rw (cut.1, parts_within, none) refl
    | inr part ↦ rw (cut.1, parts_within, part.1) refl
  ]
]

-- one more part before them
one_before : (front : List PartValue) (part : PartValue) (parts : Result (List PartValue) MimeRefusal) → before front (also part parts) ≡ before (front ++ part ∷ []) parts
one_before front part (Ok parts) = ap Ok (sym (append_assoc front (part ∷ []) parts))
one_before front part (Err refusal) = refl

-- the same if one more part fits
here : (index : ℕ) (boundary rest : List ℕ) → index < max_parts → parts_within (max_parts - index) index boundary rest ≡ from_part (max_parts - (index + 1)) index boundary (part_at boundary rest)
here index boundary rest few =
    let more : max_parts - index ≡ suc (max_parts - (index + 1)) = omega arith in
    ap (λ n. parts_within n index boundary rest) more ∙ by_part (max_parts - (index + 1)) index boundary rest

-- the same after the parts so far
step : (front : List PartValue) (index : ℕ) (boundary rest : List ℕ) (x : Option (PartValue × Ending)) → index < max_parts → part_at boundary rest ≡ x
    → before front (parts_within (max_parts - index) index boundary rest) ≡ before front (from_part (max_parts - (index + 1)) index boundary x)
step front index boundary rest x few is = ap (before front) (here index boundary rest few ∙ ap (from_part (max_parts - (index + 1)) index boundary) is)

-- both components of a pair
parted : (a c : List PartValue) (b d : Ending) → ◌≡◌ {A = Option (List PartValue × Ending)} (Some (a, b)) (Some (c, d)) → (a ≡ c) × (b ≡ d)
parted a c b d e =
    let p : List PartValue × Ending = (a, b) in
    (ap (λ o. (unwrap_or o p).0) e, ap (λ o. (unwrap_or o p).1) e)

-- the last part
from_last : (front : List PartValue) (n index : ℕ) (boundary : List ℕ) (x : PartValue × Ending) → x.1 ≡ last → before front (from_part n index boundary (Some x)) ≡ Ok (front ++ x.0 ∷ [])
from_last front n index boundary x is = rw is refl

-- a part followed by others
from_next : (front : List PartValue) (n index : ℕ) (boundary behind : List ℕ) (x : PartValue × Ending) → x.1 ≡ next behind
    → before front (from_part n index boundary (Some x)) ≡ before (front ++ x.0 ∷ []) (parts_within n (index + 1) boundary behind)
from_next front n index boundary behind x is = rw is (one_before front x.0 (parts_within n (index + 1) boundary behind))

-- no part is there
pub loop_refuses : (front : List PartValue) (index : ℕ) (boundary rest : List ℕ) → index < max_parts → option_map (with_part front) (part_at boundary rest) ≡ None
    → before front (parts_within (max_parts - index) index boundary rest) ≡ Err (BadPart index)
loop_refuses front index boundary rest few is = elim (cases_option (part_at boundary rest)) [
  | inl none ↦ step front index boundary rest None few none
  | inr some ↦ let no = sym (ap (option_map (with_part front)) some.1) ∙ is in absurd cc
]

-- the last part
pub loop_ends : (front all : List PartValue) (index : ℕ) (boundary rest : List ℕ) → index < max_parts → option_map (with_part front) (part_at boundary rest) ≡ Some (all, last)
    → before front (parts_within (max_parts - index) index boundary rest) ≡ Ok all
loop_ends front all index boundary rest few is = elim (cases_option (part_at boundary rest)) [
  | inl none ↦ let no = sym (ap (option_map (with_part front)) none) ∙ is in absurd cc
  | inr some ↦
      let same = parted _ _ _ _ (sym (ap (option_map (with_part front)) some.1) ∙ is) in
      step front index boundary rest (Some some.0) few some.1 ∙ from_last front (max_parts - (index + 1)) index boundary some.0 same.1 ∙ ap Ok same.0
]

-- a part followed by others
pub loop_goes_on : (front all : List PartValue) (index : ℕ) (boundary rest behind : List ℕ) → index < max_parts → option_map (with_part front) (part_at boundary rest) ≡ Some (all, next behind)
    → before front (parts_within (max_parts - index) index boundary rest) ≡ before all (parts_within (max_parts - (index + 1)) (index + 1) boundary behind)
loop_goes_on front all index boundary rest behind few is = elim (cases_option (part_at boundary rest)) [
  | inl none ↦ let no = sym (ap (option_map (with_part front)) none) ∙ is in absurd cc
  | inr some ↦
      let same = parted _ _ _ _ (sym (ap (option_map (with_part front)) some.1) ∙ is) in
      step front index boundary rest (Some some.0) few some.1 ∙ from_next front (max_parts - (index + 1)) index boundary behind some.0 same.1
      ∙ ap (λ (l : List PartValue). before l (parts_within (max_parts - (index + 1)) (index + 1) boundary behind)) same.0
]

-- one part too many
pub loop_full : (front : List PartValue) (index : ℕ) (boundary rest : List ℕ) → index ≡ max_parts → before front (parts_within (max_parts - index) index boundary rest) ≡ Err (BadPart max_parts)
unfolding parts_within
loop_full front index boundary rest full = rw full refl
