-- Whether two headers are equal, decided part by part.
use Rattle.std.proofs.Common.{◌≡◌, ℕ, ◌⊎◌, inl, inr, List, [], ◌∷◌, true, false, Option, Some, None, refl, sym, ap, ◌∙◌}
use Rattle.std.specs.Str.{bytes_eq}
use Rattle.std.proofs.lemmas.Bool.{cases_Bool}
use Rattle.std.proofs.lemmas.Slice.Eq.{bytes_eq-Decides}
use Rattle.as4_values.specs.declared.header.Party.{Party}
use Rattle.as4_values.specs.declared.header.Side.{Side}
use Rattle.as4_values.specs.declared.header.Agreement.{Agreement}
use Rattle.as4_values.specs.declared.header.Service.{Service}
use Rattle.as4_values.specs.declared.header.Property.{Property}
use Rattle.as4_values.specs.declared.header.PartInfo.{PartInfo}
use Rattle.as4_values.specs.declared.header.UserHeader.{UserHeader}
use Rattle.exchange_model.specs.Table.{IsOther}
use Rattle.as4_effects.proofs.PartLemmas.{party_told, service_told, agreement_told, property_told, side_told, part_told, header_told}
use Rattle.as4_effects.specs.Parts.{party_parts, service_parts, agreement_parts, property_parts, side_parts, part_parts, header_parts}

-- equal, or not
abbrev AreSame : {X : Type 0} → X → X → Type 0
AreSame x y = (x ≡ y) ⊎ (x ≡ y → ⊥)

abbrev Decides : Type 0 → Type 0
Decides X = (x y : X) → AreSame x y

by_parts : {X Y : Type 0} (parts : X → Y) → ((x y : X) → parts x ≡ parts y → x ≡ y) → Decides Y → Decides X
by_parts parts told decides x y = elim (decides (parts x) (parts y)) [ inl e ↦ inl (told x y e) | inr other ↦ inr (λ e. other (ap parts e)) ]

bytes : Decides (List ℕ)
bytes x y = elim (cases_Bool (bytes_eq x y)) [
  | inl e ↦ inl ((bytes_eq-Decides x y).0 e)
  | inr e ↦ inr (λ same. let is : bytes_eq x y ≡ true = (bytes_eq-Decides x y).1 same in let absent : false ≡ true = sym e ∙ is in cc)
]

both : {X Y : Type 0} (a c : X) (b d : Y) → AreSame a c → AreSame b d → AreSame {X = X × Y} (a, b) (c, d)
both a c b d (inl e) (inl f) = inl (ap (λ x. (x, b)) e ∙ ap (λ y. (c, y)) f)
both a c b d (inl e) (inr other) = inr (λ same. other (ap (λ p. p.1) same))
both a c b d (inr other) h = inr (λ same. other (ap (λ p. p.0) same))

pairs : {X Y : Type 0} → Decides X → Decides Y → Decides (X × Y)
pairs first second x y = both x.0 y.0 x.1 y.1 (first x.0 y.0) (second x.1 y.1)

some : {X : Type 0} (x y : X) → AreSame x y → AreSame (Some x) (Some y)
some x y (inl e) = inl (ap Some e)
some x y (inr other) = inr (λ same. other cc)

options : {X : Type 0} → Decides X → Decides (Option X)
options decides None None = inl refl
options decides None (Some y) = inr (λ e. cc)
options decides (Some x) None = inr (λ e. cc)
options decides (Some x) (Some y) = some x y (decides x y)

joined : {X : Type 0} (x y : X) (xs ys : List X) → AreSame x y → AreSame xs ys → AreSame (x ∷ xs) (y ∷ ys)
joined x y xs ys (inl e) (inl f) = inl cc
joined x y xs ys (inl e) (inr other) = inr (λ same. other cc)
joined x y xs ys (inr other) h = inr (λ same. other cc)

lists : {X : Type 0} → Decides X → Decides (List X)
lists decides [] [] = inl refl
lists decides [] (y ∷ ys) = inr (λ e. cc)
lists decides (x ∷ xs) [] = inr (λ e. cc)
lists decides (x ∷ xs) (y ∷ ys) = joined x y xs ys (decides x y) (lists decides xs ys)

two : Decides (List ℕ × Option (List ℕ))
two = pairs bytes (options bytes)

three : Decides ((List ℕ × Option (List ℕ)) × Option (List ℕ))
three = pairs two (options bytes)

parties : Decides Party
parties = by_parts party_parts party_told two

services : Decides Service
services = by_parts service_parts service_told two

agreements : Decides Agreement
agreements = by_parts agreement_parts agreement_told three

properties : Decides Property
properties = by_parts property_parts property_told three

sides : Decides Side
sides = by_parts side_parts side_told (pairs (lists parties) bytes)

infos : Decides PartInfo
infos = by_parts part_parts part_told (pairs (options bytes) (lists properties))

headers : Decides UserHeader
headers = by_parts header_parts header_told
    (pairs (pairs (pairs (options bytes) bytes) (pairs bytes (options bytes)))
    (pairs (pairs (pairs sides sides) (pairs (options agreements) services))
    (pairs (pairs bytes (options bytes)) (pairs (lists properties) (lists infos)))))

-- a copy is another header, or not
pub is_other_or : (copy : Option UserHeader) (header : UserHeader) → IsOther copy header ⊎ (IsOther copy header → ⊥)
is_other_or None header = inr (λ none. none)
is_other_or (Some copy) header = elim (headers copy header) [ inl e ↦ inr (λ other. other e) | inr other ↦ inl other ]
