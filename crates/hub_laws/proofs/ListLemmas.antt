-- Items of lists by their places.
use Rattle.std.proofs.Common.{◌≡◌, ℕ, zero, suc, ◌<◌, inl, inr, List, [], ◌∷◌, Some, length, refl, sym, ap, ◌∙◌, subst, arith}
use Rattle.std.specs.Prelude.{slice_get}
use Rattle.exchange_model.specs.declared.inbox_entry.InboxEntry.{InboxEntry}
use Rattle.exchange_model.proofs.ListLemmas.{Has}
use Rattle.exchange_laws.proofs.InboxLemmas.{Apart, ids}
use Rattle.exchange_laws.proofs.ListLemmas.{got_mapped, has_got, has_mapped}

-- a place below the length has an item, and only such a place
pub got_below : {X : Type 0} (xs : List X) (n : ℕ) → n < length xs → (x : X) × (slice_get xs n ≡ Some x)
got_below [] n less = absurd (omega arith)
got_below (x ∷ xs) zero less = (x, refl)
got_below (x ∷ xs) (suc n) less = got_below xs n (omega arith)

pub below_got : {X : Type 0} (xs : List X) (n : ℕ) (x : X) → slice_get xs n ≡ Some x → n < length xs
below_got [] n x e = absurd cc
below_got (y ∷ xs) zero x e = omega arith
below_got (y ∷ xs) (suc n) x e = omega (arith, below_got xs n x e)

-- an item of a list has a place
pub place_of : {X : Type 0} (xs : List X) (x : X) → Has xs x → (n : ℕ) × (slice_get xs n ≡ Some x)
place_of [] x h = absurd h
place_of (y ∷ xs) x (inl e) = (0, ap Some e)
place_of (y ∷ xs) x (inr h) = let rest = place_of xs x h in (suc rest.0, rest.1)

-- a list without items
pub none_got : {X : Type 0} (xs : List X) → ((n : ℕ) (x : X) → slice_get xs n ≡ Some x → ⊥) → xs ≡ []
none_got [] none = refl
none_got (x ∷ xs) none = absurd (none 0 x refl)

-- two places of one item are the same, where no two items are equal
one_got : (xs : List (List ℕ)) (j k : ℕ) (x : List ℕ) → Apart xs → slice_get xs j ≡ Some x → slice_get xs k ≡ Some x → j ≡ k
one_got [] j k x apart e f = absurd cc
one_got (y ∷ xs) zero zero x apart e f = refl
one_got (y ∷ xs) zero (suc k) x apart e f =
    let same : y ≡ x = cc in absurd (apart.0 (subst (Has xs) (sym same) (has_got xs k x f)))
one_got (y ∷ xs) (suc j) zero x apart e f =
    let same : y ≡ x = cc in absurd (apart.0 (subst (Has xs) (sym same) (has_got xs j x e)))
one_got (y ∷ xs) (suc j) (suc k) x apart e f = ap suc (one_got xs j k x apart.1 e f)

-- two entries of an inbox with one identifier are at one place
pub one_place : (inbox : List InboxEntry) (j k : ℕ) (a b : InboxEntry) → Apart (ids inbox) → slice_get inbox j ≡ Some a
    → slice_get inbox k ≡ Some b → a.header.id ≡ b.header.id → j ≡ k
one_place inbox j k a b apart at there same =
    one_got (ids inbox) j k a.header.id apart (got_mapped (λ (entry : InboxEntry). entry.header.id) inbox j a at)
    (got_mapped (λ (entry : InboxEntry). entry.header.id) inbox k b there ∙ ap Some (sym same))

-- an identifier of an inbox is that of an entry at some place
pub record IsPlaced (inbox : List InboxEntry) (id : List ℕ) : Type 0 where
  pub place : ℕ
  pub entry : InboxEntry
  pub there : slice_get inbox place ≡ Some entry
  pub identified : entry.header.id ≡ id

pub placed : (inbox : List InboxEntry) (id : List ℕ) → Has (ids inbox) id → IsPlaced inbox id
placed inbox id h =
    let of = has_mapped (λ (entry : InboxEntry). entry.header.id) inbox id h in
    let at = place_of inbox of.0 of.1 in
    record { place = at.0; entry = of.0; there = at.1; identified = of.2 }
