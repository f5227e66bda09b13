-- The names of channels, among the keys of a set.
use Rattle.std.proofs.Common.{◌≡◌, ◌≢◌, ℕ, zero, suc, List, [], ◌∷◌, ◌++◌, Bool, true, false, cond, ◌||◌, Some, length, map, get_or, slice_get, option_map, inl, inr, refl, sym, ap, ◌∙◌}
use Rattle.std.specs.Cmp.Lexicographic.{pointwise}
use Rattle.std.specs.List.{list_any, position}
use Rattle.std.specs.Prelude.{nat_eq}
use Rattle.std.specs.declared.alloc.Global.{Global}
use Rattle.std.specs.declared.vec.Vec.{Vec}
use Rattle.std.proofs.lemmas.Bool.{cases_eq, false≢true}
use Rattle.std.proofs.lemmas.List.{map_push}
use Rattle.std.proofs.lemmas.List.Quantifiers.{position-Some}
use Rattle.std.proofs.lemmas.Option.{same_Some, none-some, slice_get-map, slice_get-get_or}
use Rattle.std.proofs.lemmas.Slice.Eq.{bytes_eq-Decides}
use Rattle.channels.specs.Keeping.{AreDistinct}
use Rattle.due_heap.proofs.PlaceLemmas.{get-push_last, get-push_other}

abbrev pub names_of : List (Vec ℕ Global) → List (List ℕ)
names_of keys = map (λ key. key.items) keys

-- no key has a name that is at no place
none_has : (name : List ℕ) (keys : List (Vec ℕ Global)) → ((at : ℕ) → slice_get (names_of keys) at ≢ Some name) → list_any (λ k. pointwise nat_eq name k.items) keys ≡ false
none_has name [] none = refl
none_has name (k ∷ keys) none =
    elim (pointwise nat_eq name k.items) as (λ b. pointwise nat_eq name k.items ≡ b → (b || list_any (λ k. pointwise nat_eq name k.items) keys) ≡ false) [
      | true ↦ λ e. absurd (none 0 (ap (λ (n : List ℕ). Some n) (sym ((bytes_eq-Decides name k.items).0 e))))
      | false ↦ λ e. none_has name keys (λ at. none (suc at))
    ] refl

-- a new one is added after the others
pub names_added : (v : Vec ℕ Global) (name : List ℕ) (keys keys' : List (Vec ℕ Global)) → v.items ≡ name → ((at : ℕ) → slice_get (names_of keys) at ≢ Some name) → keys' ≡ cond (list_any (λ k. pointwise nat_eq v.items k.items) keys) keys (keys ++ v ∷ []) → names_of keys' ≡ names_of keys ++ name ∷ []
names_added v name keys keys' spelled none added =
    let absent = rw (← spelled) at (none_has name keys none) in
    ap names_of (added ∙ ap (λ b. cond b keys (keys ++ v ∷ [])) absent)
    ∙ map_push (λ (key : Vec ℕ Global). key.items) keys v
    ∙ ap (λ n. names_of keys ++ n ∷ []) spelled

pub distinct_added : (name : List ℕ) (names : List (List ℕ)) → AreDistinct names → ((at : ℕ) → slice_get names at ≢ Some name) → AreDistinct (names ++ name ∷ [])
distinct_added name names distinct none i j n at_i at_j =
    elim (cases_eq i (length names)) [
      | inl last_i ↦
          elim (cases_eq j (length names)) [
            | inl last_j ↦ last_i ∙ sym last_j
            | inr front_j ↦ absurd (none j (sym (get-push_other names name j front_j) ∙ at_j ∙ sym (sym (get-push_last names name) ∙ ap (slice_get (names ++ name ∷ [])) (sym last_i) ∙ at_i)))
          ]
      | inr front_i ↦
          elim (cases_eq j (length names)) [
            | inl last_j ↦ absurd (none i (sym (get-push_other names name i front_i) ∙ at_i ∙ sym (sym (get-push_last names name) ∙ ap (slice_get (names ++ name ∷ [])) (sym last_j) ∙ at_j)))
            | inr front_j ↦ distinct i j n (sym (get-push_other names name i front_i) ∙ at_i) (sym (get-push_other names name j front_j) ∙ at_j)
          ]
    ]

pub none_distinct : AreDistinct []
none_distinct i j name at_i at_j = absurd (none-some name at_i)

-- the key that is found has the name
pub name_found : (name : List ℕ) (keys : List (Vec ℕ Global)) (at : ℕ) → Some at ≡ position (λ k. pointwise nat_eq name k.items) keys → slice_get (names_of keys) at ≡ Some name
name_found name [] at found = absurd (none-some at (sym found))
name_found name (k ∷ keys) at found =
    let is = position-Some (λ (k : Vec ℕ Global). pointwise nat_eq name k.items) (k ∷ keys) at k (sym found) in
    slice_get-map (λ (key : Vec ℕ Global). key.items) (k ∷ keys) at
    ∙ ap (option_map (λ (key : Vec ℕ Global). key.items)) (slice_get-get_or (k ∷ keys) at k is.0)
    ∙ ap (λ (n : List ℕ). Some n) (sym ((bytes_eq-Decides name (get_or (k ∷ keys) at k).items).0 is.1))

-- where none is found, no key has the name
pub name_missed : (name : List ℕ) (keys : List (Vec ℕ Global)) → list_any (λ k. pointwise nat_eq name k.items) keys ≡ false → (at : ℕ) → slice_get (names_of keys) at ≢ Some name
name_missed name [] none at has = none-some name has
name_missed name (k ∷ keys) none zero has =
    let same : name ≡ k.items = sym (same_Some k.items name has) in
    false≢true (sym none ∙ ap (λ b. b || list_any (λ (k : Vec ℕ Global). pointwise nat_eq name k.items) keys) ((bytes_eq-Decides name k.items).1 same))
name_missed name (k ∷ keys) none (suc at) has =
    name_missed name keys (or_false (pointwise nat_eq name k.items) (list_any (λ (k : Vec ℕ Global). pointwise nat_eq name k.items) keys) none) at has
  where
    or_false : (a b : Bool) → (a || b) ≡ false → b ≡ false
    or_false true b none = absurd (false≢true (sym none))
    or_false false b none = none
