-- The place of the root, as searches find it.
use Rattle.std.proofs.Common.{◌≡◌, ℕ, zero, suc, ◌+◌, ◌<◌, Bool, true, false, List, [], ◌∷◌, length, get_or, drop, map, Option, Some, None, not, refl, sym, ap, ◌∙◌, arith, inl, inr}
use Rattle.std.specs.Prelude.{option_map, position, if◌then◌else◌}
use Rattle.std.specs.List.{list_any, position_from, remove}
use Rattle.std.proofs.lemmas.Bool.{cases_Bool}
use Rattle.std.proofs.lemmas.Iterator.Adapters.{position_from-zero}
use Rattle.byte_forms.specs.Cuts.{◌>>=◌}
use Rattle.mime_fields.specs.Fields.{PartValue}
use Rattle.mime_fields.specs.Lent.{part_value}
use Rattle.mime_fields.specs.declared.part.Part.{Part}
use Rattle.mime_fields.specs.MediaTypes.{media_type_of}
use Rattle.mime_package.specs.Reading.{encoded_at, has_id, is_root, only_one, root_of}
use Rattle.mime_package.specs.Steps.{is_id, taken_out}

-- ---- the only part with a property

-- the index in a list with one more item at its start
further : {X : Type 0} (is : X → Bool) (i : ℕ) (xs : List X) → position_from is (i + 1) xs ≡ option_map suc (position_from is i xs)
further is i [] = refl
further is i (x ∷ xs) = elim (cases_Bool (is x)) [
  | inl held ↦ let next : i + 1 ≡ suc i = omega arith in rw held (ap Some next)
  | inr not_held ↦ rw not_held (further is (i + 1) xs)
]

-- the item at the first index, taken out if no later item has the property
abbrev one_at : {X Y : Type 0} → (X → Bool) → (X → Y) → List X → Option ℕ → Option (Y × List Y)
one_at is view xs place = place >>= λ at. if list_any is (drop (at + 1) xs) then None else taken_out at (map view xs)

-- the same with one more item at the start
one_further : {X Y : Type 0} (is : X → Bool) (view : X → Y) (x : X) (xs : List X) (place : Option ℕ)
    → one_at is view (x ∷ xs) (option_map suc place) ≡ option_map (λ found. (found.0, view x ∷ found.1)) (one_at is view xs place)
unfolding taken_out
one_further is view x xs None = refl
one_further is view x xs (Some at) =
    let next : suc at + 1 ≡ suc (at + 1) = omega arith in
    elim (cases_Bool (list_any is (drop (at + 1) xs))) [
      | inl any ↦ rw (next, any) refl
      | inr none ↦ rw (next, none) refl
    ]

-- the same test on the borrowed parts
any_lent : (is : PartValue → Bool) (test : Part → Bool) (parts : List Part) → ((p : Part) → test p ≡ is (part_value p)) → list_any is (map part_value parts) ≡ list_any test parts
any_lent is test [] same = refl
any_lent is test (part ∷ parts) same = rw (same part, any_lent is test parts same) refl

-- the only part, from the first index and the parts after it
only_at : (is : PartValue → Bool) (test : Part → Bool) (parts : List Part) → ((p : Part) → test p ≡ is (part_value p)) → only_one is (map part_value parts) ≡ one_at test part_value parts (position_from test 0 parts)
unfolding only_one taken_out
only_at is test [] same = refl
only_at is test (part ∷ parts) same = elim (cases_Bool (test part)) [
  | inl held ↦ rw (held, sym (same part) ∙ held, any_lent is test parts same) refl
  | inr not_held ↦
      let behind = ap (option_map (λ found. (found.0, part_value part ∷ found.1))) (only_at is test parts same) ∙ sym (one_further test part_value part parts (position_from test 0 parts)) in
      rw (not_held, sym (same part) ∙ not_held) (behind ∙ ap (one_at test part_value (part ∷ parts)) (sym (further test 0 parts)))
]

-- the test of a part is that of its Content-ID
same_id : (id : List ℕ) (part : PartValue) → is_id id part.id ≡ has_id id part
same_id id part = refl

-- the only part with a Content-ID
placed : (id : List ℕ) (parts : List Part) (place : Option ℕ) → place ≡ position (λ p. is_id id p.id) parts
    → only_one (has_id id) (map part_value parts) ≡ one_at (λ p. is_id id p.id) part_value parts place
placed id parts place is =
    only_at (has_id id) (λ p. is_id id p.id) parts (λ p. same_id id (part_value p))
    ∙ ap (one_at (λ p. is_id id p.id) part_value parts) (sym (is ∙ position_from-zero (λ p. is_id id p.id) parts))

-- no part has the Content-ID
pub none_has_id : (id : List ℕ) (parts : List Part) → None ≡ position (λ p. is_id id p.id) parts → only_one (has_id id) (map part_value parts) ≡ None
none_has_id id parts is = placed id parts None is

-- several parts have it
pub two_have_id : (id : List ℕ) (parts : List Part) (at : ℕ) → Some at ≡ position (λ p. is_id id p.id) parts → list_any (λ p. is_id id p.id) (drop (at + 1) parts) ≡ true
    → only_one (has_id id) (map part_value parts) ≡ None
two_have_id id parts at is other = placed id parts (Some at) is ∙ rw other refl

-- one part has it
pub one_has_id : (id : List ℕ) (parts : List Part) (at : ℕ) → Some at ≡ position (λ p. is_id id p.id) parts → list_any (λ p. is_id id p.id) (drop (at + 1) parts) ≡ false
    → only_one (has_id id) (map part_value parts) ≡ taken_out at (map part_value parts)
one_has_id id parts at is none = placed id parts (Some at) is ∙ rw none refl

-- ---- the first part

-- if no part is named, the root is the first one
pub first_root : (parts : List PartValue) → root_of None parts ≡ taken_out 0 parts
unfolding root_of taken_out
first_root [] = refl
first_root (part ∷ parts) = refl

-- the first encoded content, counting from an index
encoded_from : (index : ℕ) (parts : List Part) → position_from (λ p. not p.identity) index parts ≡ encoded_at index (map part_value parts)
unfolding encoded_at
encoded_from index [] = refl
encoded_from index (part ∷ parts) = elim (cases_Bool part.identity) [
  | inl identity ↦ rw identity (encoded_from (index + 1) parts)
  | inr encoded ↦ rw encoded refl
]

-- counting from 0
pub encoded_first : (parts : List Part) → position (λ p. not p.identity) parts ≡ encoded_at 0 (map part_value parts)
encoded_first parts = position_from-zero (λ p. not p.identity) parts ∙ encoded_from 0 parts

-- ---- the root

-- a part whose media text spells no type is no root
pub no_root_type : (part : PartValue) → media_type_of part.media ≡ None → is_root part ≡ false
no_root_type part none = rw (none, is_root) refl

-- ---- taking out an item

-- the item taken out is the one at the index, and the others remain
pub taken_removed : {X Y : Type 0} (view : X → Y) (xs : List X) (at : ℕ) (d : X) → at < length xs → taken_out at (map view xs) ≡ Some (view (get_or xs at d), map view (remove xs at))
unfolding taken_out
taken_removed view [] at d within = absurd (omega (arith, within))
taken_removed view (x ∷ xs) zero d within = refl
taken_removed view (x ∷ xs) (suc at) d within = ap (option_map (λ found. (found.0, view x ∷ found.1))) (taken_removed view xs at d (omega (arith, within)))
