-- How a message is found among the effects of a record.
use Rattle.std.proofs.Common.{◌≡◌, ℕ, zero, suc, ◌≤◌, List, [], ◌∷◌, Bool, true, false, cond, Option, Some, None, length, refl, ap, ◌∙◌, arith}
use Rattle.std.specs.Prelude.{nat_lt, position}
use Rattle.std.specs.List.{find, position_or_len, slice_get}
use Rattle.std.specs.Str.{bytes_eq}
use Rattle.std.proofs.lemmas.Bool.{ltb-false}
use Rattle.std.proofs.lemmas.List.Folds.{find_at}
use Rattle.std.proofs.lemmas.Option.{same_Some}
use Rattle.as4_effects.specs.declared.delivery.Delivery.{Delivery}
use Rattle.as4_effects.specs.declared.effect.Effect.{Effect}
use Rattle.as4_effects.specs.declared.effect.Effect.TheVariants as effect
use Rattle.msh_journal.specs.Fetching.{delivers}
use Rattle.payload_gates.specs.Gates.{delivery_in}

-- the message that the effect delivers
abbrev pub delivered_by : Option Effect → Option Delivery
delivered_by None = None
delivered_by (Some (effect.Delivered delivery)) = Some delivery
delivered_by (Some other) = None

found_by : (b : Bool) (d : Delivery) (rest : Option Delivery) (found : Option Effect) → rest ≡ delivered_by found → cond b (Some d) rest ≡ delivered_by (cond b (Some (effect.Delivered d)) found)
found_by true d rest found same = refl
found_by false d rest found same = same

delivery_found : (id : List ℕ) (effects : List Effect) → delivery_in id effects ≡ delivered_by (find (delivers id) effects)
unfolding delivery_in
delivery_found id [] = refl
delivery_found id (effect.Delivered d ∷ effects) =
    found_by (bytes_eq d.header.id id) d (delivery_in id effects) (find (delivers id) effects) (delivery_found id effects)
delivery_found id (other ∷ effects) = delivery_found id effects

got_none : {X : Type 0} (xs : List X) (i : ℕ) → length xs ≤ i → slice_get xs i ≡ None
got_none [] i past = refl
got_none (x ∷ xs) zero past = absurd (omega (arith, past))
got_none (x ∷ xs) (suc i) past = got_none xs i (omega (arith, past))

module _ {X : Type 0} (p : X → Bool) (xs : List X) where
  some_by : (b : Bool) (at i : ℕ) → cond b (Some at) None ≡ Some i → at ≡ i
  some_by true at i is = same_Some _ _ is
  some_by false at i is = absurd cc

  none_by : (b : Bool) (at : ℕ) → cond b (Some at) None ≡ None → b ≡ false
  none_by true at is = absurd cc
  none_by false at is = refl

  at_place : (i : ℕ) → position p xs ≡ Some i → find p xs ≡ slice_get xs i
  at_place i is =
      find_at p xs ∙ ap (slice_get xs) (some_by (nat_lt (position_or_len p xs) (length xs)) (position_or_len p xs) i is)

  at_no_place : position p xs ≡ None → find p xs ≡ None
  at_no_place is =
      let past : length xs ≤ position_or_len p xs = ltb-false (position_or_len p xs) (length xs) (none_by (nat_lt (position_or_len p xs) (length xs)) (position_or_len p xs) is) in
      find_at p xs ∙ got_none xs (position_or_len p xs) past

-- the first delivery is at that place
pub delivery_at : (id : List ℕ) (effects : List Effect) (place : ℕ) (found : Effect) → position (delivers id) effects ≡ Some place → slice_get effects place ≡ Some found → delivery_in id effects ≡ delivered_by (Some found)
delivery_at id effects place found is there =
    delivery_found id effects ∙ ap delivered_by (at_place (delivers id) effects place is ∙ there)

-- there is none
pub no_delivery : (id : List ℕ) (effects : List Effect) → position (delivers id) effects ≡ None → delivery_in id effects ≡ None
no_delivery id effects is = delivery_found id effects ∙ ap delivered_by (at_no_place (delivers id) effects is)

-- any other effect delivers nothing
pub other_delivers : (other : Effect) → ((d : Delivery) → other ≡ effect.Delivered d → ⊥) → delivered_by (Some other) ≡ None
other_delivers (effect.Delivered d) differs = absurd (differs d refl)
other_delivers other differs = refl
