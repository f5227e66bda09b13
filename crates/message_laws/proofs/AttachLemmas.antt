-- A header's part infos refer to the payloads that pair with them.
use Rattle.std.proofs.Common.{◌≡◌, ℕ, ◌≤◌, List, [], ◌∷◌, Bool, true, false, Some, None, Ok, map, length, refl, sym, ap, ◌∙◌, inl, inr, true≢false, arith}
use Rattle.std.specs.Prelude.{◌&&◌, codes, nat_eq, option_and_then}
use Rattle.std.specs.Cmp.{first_so, second_so}
use Rattle.std.specs.List.{list_any, list_all, starts_with}
use Rattle.std.proofs.lemmas.List.{length-map}
use Rattle.std.proofs.lemmas.Option.{option_and_then_some, same_Some}
use Rattle.std.proofs.lemmas.Simd.{map-map}
use Rattle.byte_forms.proofs.CutLemmas.{cases_option}
use Rattle.as4_values.specs.Pairing.{cid_in, named_by, is_among, all_differ, are_paired, pair}
use Rattle.as4_message.proofs.AttachLemmas.{attach_paired}
use Rattle.as4_message.specs.Attached.{is_inside, all_attached, attach}
use Rattle.as4_message.specs.Meaning.{payload_value}
use Rattle.as4_values.specs.Counts.{IsPartCount}
use Rattle.as4_values.specs.declared.header.PartInfo.{PartInfo}
use Rattle.as4_values.specs.declared.payload.Payload.{Payload}
use Rattle.message_laws.proofs.CountLemmas.{no_more}
use Rattle.package_laws.specs.Written.{payload_part}

-- a reference that begins with `#` names no Content-ID
inside_names_none : (href : List ℕ) → starts_with nat_eq href (codes "#") ≡ true → cid_in href ≡ None
unfolding cid_in
inside_names_none [] inside = refl
inside_names_none (b ∷ href) inside = let hash : b ≡ 35 = grind arith in rw hash refl

-- one that names a Content-ID doesn't begin with `#`
names_not_inside : (href cid : List ℕ) → cid_in href ≡ Some cid → starts_with nat_eq href (codes "#") ≡ false
names_not_inside href cid named = by (starts_with nat_eq href (codes "#")) refl
  where
    by : (inside : Bool) → starts_with nat_eq href (codes "#") ≡ inside → inside ≡ false
    by true inside = let none = inside_names_none href inside in absurd cc
    by false inside = refl

-- if each part info names a Content-ID, none refers to something inside, and there are as many names as part infos
all_named : (infos : List PartInfo) (names : List (List ℕ)) → named_by infos ≡ Some names → (list_any is_inside infos ≡ false) × (length infos ≡ length names)
unfolding named_by
all_named [] names named = (refl, ap length (same_Some [] names named))
all_named (info ∷ infos) names named =
    option_and_then_some (λ cid. option_and_then (λ cids. Some (cid ∷ cids)) (named_by infos)) (option_and_then cid_in info.href) names named λ cid first rest.
    option_and_then_some (λ cids. Some (cid ∷ cids)) (named_by infos) names rest λ cids later is.
    option_and_then_some cid_in info.href cid first λ href here found.
    let others = all_named infos cids later in
    (rw (here, names_not_inside href cid found) others.0, rw (← same_Some (cid ∷ cids) names is) (omega (arith, others.1)))

-- the names of part infos that pair with payloads
names_of : (infos : List PartInfo) (payloads : List Payload) → pair infos payloads ≡ true
    → (names : List (List ℕ)) × (named_by infos ≡ Some names) × (are_paired (Some names) (map (λ payload. payload.cid) payloads) ≡ true)
unfolding pair
names_of infos payloads is = elim (cases_option (named_by infos)) [
  | inl none ↦ let other = rw none at is in absurd (true≢false (sym other))
  | inr names ↦ (names.0, names.1, rw names.1 at is)
]

-- each payload's part has a Content-ID
parts_attached : (payloads : List Payload) → all_attached (map payload_part payloads) ≡ Some (map payload_value payloads)
unfolding all_attached
parts_attached [] = refl
parts_attached (payload ∷ payloads) = rw (parts_attached payloads) refl

-- the parts that part infos refer to are the payloads with which they pair
pub attach_again : (infos : List PartInfo) (payloads : List Payload) → pair infos payloads ≡ true → attach infos (map payload_part payloads) ≡ Ok (map payload_value payloads)
attach_again infos payloads is =
    let names = names_of infos payloads is in
    attach_paired infos (map payload_part payloads) names.0 (all_named infos names.0 names.1).0 (sym names.1)
    ∙ rw (parts_attached payloads, map-map (λ part. part.cid) payload_value payloads, names.2) refl

-- the second and the last of four conditions
second_and_last : (a b c d : Bool) → (a && (b && (c && d))) ≡ true → (b ≡ true) × (d ≡ true)
second_and_last a b c d e =
    let behind = second_so a (b && (c && d)) e in (first_so b (c && d) behind, second_so c d (second_so b (c && d) behind))

-- the payloads' Content-IDs differ and are all named, so the payloads are at most as many as the part infos
pub payloads_are_few : (infos : List PartInfo) (payloads : List Payload) → pair infos payloads ≡ true → IsPartCount infos → length payloads ≤ 255
payloads_are_few infos payloads is few =
    let names = names_of infos payloads is in
    let cids : List (List ℕ) = map (λ payload. payload.cid) payloads in
    let facts = second_and_last (all_differ names.0) (all_differ cids) (list_all (is_among cids) names.0) (list_all (is_among names.0) cids) names.2 in
    omega (arith, no_more cids names.0 facts.0 facts.1, length-map payloads (λ payload. payload.cid), (all_named infos names.0 names.1).1)
