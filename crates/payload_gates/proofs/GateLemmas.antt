-- The gates of deliveries, each in a record of its own, and places that get them one after another.
use Rattle.std.proofs.Common.{◌≡◌, ℕ, zero, suc, ◌+◌, List, [], ◌∷◌, ◌++◌, false, Some, length, refl, sym, ap, ◌∙◌, subst, append_assoc, arith}
use Rattle.std.specs.Prelude.{if◌then◌else◌, set, slice_get}
use Rattle.std.proofs.lemmas.List.{append-nil, map-append}
use Rattle.as4_effects.specs.declared.delivery.Delivery.{Delivery}
use Rattle.as4_effects.specs.declared.effect.Effect.{Effect}
use Rattle.as4_effects.specs.declared.effect.Effect.TheVariants as effect
use Rattle.inbox.specs.Spots.{Spot}
use Rattle.payload_gates.specs.Gates.{AreGates, is_delivery, moved, one_by_one}

-- ---- each effect in a record of its own

pub one_by_one_none : one_by_one [] ≡ []
unfolding one_by_one
one_by_one_none = refl

pub one_by_one_cons : (e : Effect) (effects : List Effect) → one_by_one (e ∷ effects) ≡ (e ∷ []) ∷ one_by_one effects
unfolding one_by_one
one_by_one_cons e effects = refl

pub one_by_one_append : (front behind : List Effect) → one_by_one (front ++ behind) ≡ one_by_one front ++ one_by_one behind
unfolding one_by_one
one_by_one_append front behind = map-append (λ (e : Effect). e ∷ []) front behind

-- the records in front, up to this one and past it
further : (before : List (List Effect)) (e : Effect) (effects : List Effect) (last : List (List Effect)) → before ++ one_by_one (e ∷ effects) ≡ last
    → (before ++ (e ∷ []) ∷ []) ++ one_by_one effects ≡ last
further before e effects last are =
    append_assoc before ((e ∷ []) ∷ []) (one_by_one effects) ∙ sym (ap (λ (l : List (List Effect)). before ++ l) (one_by_one_cons e effects)) ∙ are

nothing_further : (before last : List (List Effect)) → before ++ one_by_one [] ≡ last → before ≡ last
nothing_further before last are = sym (append-nil before) ∙ sym (ap (λ (l : List (List Effect)). before ++ l) one_by_one_none) ∙ are

-- ---- gates

abbrev pub NoDelivery : List Effect → Type 0
NoDelivery [] = Unit {0}
NoDelivery (e ∷ effects) = (is_delivery e ≡ false) × NoDelivery effects

module _ (gate_of : List (List Effect) → ℕ) where
  pub gates_none : (before : List (List Effect)) → AreGates gate_of before [] []
  unfolding AreGates
  gates_none before = tt

  more_at : (before : List (List Effect)) (effects : List Effect) (gates : List ℕ) (d : Delivery) (gate : ℕ) (last : List (List Effect))
      → before ++ one_by_one effects ≡ last → gate ≡ gate_of last → AreGates gate_of before effects gates
      → AreGates gate_of before (effects ++ effect.Delivered d ∷ []) (gates ++ gate ∷ [])
  unfolding AreGates
  more_at before [] [] d gate last ends is are = (is ∙ ap gate_of (sym (nothing_further before last ends)), tt)
  more_at before [] (g ∷ gates) d gate last ends is are = absurd are
  more_at before (effect.Delivered x ∷ effects) [] d gate last ends is are = absurd are
  more_at before (effect.Delivered x ∷ effects) (g ∷ gates) d gate last ends is are =
      (are.0, more_at (before ++ (effect.Delivered x ∷ []) ∷ []) effects gates d gate last (further before (effect.Delivered x) effects last ends) is are.1)
  more_at before (other ∷ effects) gates d gate last ends is are =
      more_at (before ++ (other ∷ []) ∷ []) effects gates d gate last (further before other effects last ends) is are

  -- one more delivery
  pub gates_more : (effects : List Effect) (gates : List ℕ) (d : Delivery) (gate : ℕ) → gate ≡ gate_of (one_by_one effects) → AreGates gate_of [] effects gates
      → AreGates gate_of [] (effects ++ effect.Delivered d ∷ []) (gates ++ gate ∷ [])
  gates_more effects gates d gate is are = more_at [] effects gates d gate (one_by_one effects) refl is are

  other_one : (before : List (List Effect)) (e : Effect) → is_delivery e ≡ false → AreGates gate_of before (e ∷ []) []
  unfolding AreGates
  other_one before (effect.Delivered d) other_kind = absurd cc
  other_one before other other_kind = tt

  other_at : (before : List (List Effect)) (effects : List Effect) (gates : List ℕ) (e : Effect) → is_delivery e ≡ false → AreGates gate_of before effects gates
      → AreGates gate_of before (effects ++ e ∷ []) gates
  unfolding AreGates
  other_at before [] [] e other_kind are = other_one before e other_kind
  other_at before [] (g ∷ gates) e other_kind are = absurd are
  other_at before (effect.Delivered x ∷ effects) [] e other_kind are = absurd are
  other_at before (effect.Delivered x ∷ effects) (g ∷ gates) e other_kind are = (are.0, other_at (before ++ (effect.Delivered x ∷ []) ∷ []) effects gates e other_kind are.1)
  other_at before (other ∷ effects) gates e other_kind are = other_at (before ++ (other ∷ []) ∷ []) effects gates e other_kind are

  -- one more effect of another kind
  pub gates_other : (effects : List Effect) (gates : List ℕ) (e : Effect) → is_delivery e ≡ false → AreGates gate_of [] effects gates → AreGates gate_of [] (effects ++ e ∷ []) gates
  gates_other effects gates e other_kind are = other_at [] effects gates e other_kind are

  -- one more effect, whose gate is one of them if it is a delivery
  pub gates_noted : (effects : List Effect) (gates after : List ℕ) (e : Effect) (place : ℕ) → place ≡ gate_of (one_by_one effects) → after ≡ (if is_delivery e then gates ++ place ∷ [] else gates)
      → AreGates gate_of [] effects gates → AreGates gate_of [] (effects ++ e ∷ []) after
  gates_noted effects gates after (effect.Delivered d) place is noted are =
      subst (AreGates gate_of [] (effects ++ effect.Delivered d ∷ [])) (sym noted) (gates_more effects gates d place is are)
  gates_noted effects gates after other place is noted are =
      subst (AreGates gate_of [] (effects ++ other ∷ [])) (sym noted) (gates_other effects gates other refl are)

  -- effects without a delivery have none
  pub gates_past : (before : List (List Effect)) (front behind : List Effect) (gates : List ℕ) → NoDelivery front → AreGates gate_of before (front ++ behind) gates
      → AreGates gate_of (before ++ one_by_one front) behind gates
  unfolding AreGates
  gates_past before [] behind gates none are =
      let P : List (List Effect) → Type 0 = λ l. AreGates gate_of l behind gates in
      subst P (nothing_further before (before ++ one_by_one []) refl) are
  gates_past before (effect.Delivered d ∷ front) behind gates none are = let delivers = none.0 in absurd cc
  gates_past before (other ∷ front) behind gates none are =
      let P : List (List Effect) → Type 0 = λ l. AreGates gate_of l behind gates in
      subst P (further before other front (before ++ one_by_one (other ∷ front)) refl) (gates_past (before ++ (other ∷ []) ∷ []) front behind gates none.1 are)

-- ---- places

moved_none_here : (spots : List Spot) → moved zero [] spots ≡ spots
unfolding moved
moved_none_here [] = refl
moved_none_here (s ∷ spots) = refl

pub moved_none : (n : ℕ) (spots : List Spot) → moved n [] spots ≡ spots
unfolding moved
moved_none n [] = refl
moved_none zero (s ∷ spots) = refl
moved_none (suc n) (s ∷ spots) = ap (λ (l : List Spot). s ∷ l) (moved_none n spots)

pub moved_length : (n : ℕ) (gates : List ℕ) (spots : List Spot) → length (moved n gates spots) ≡ length spots
unfolding moved
moved_length n gates [] = refl
moved_length zero [] (s ∷ spots) = refl
moved_length zero (g ∷ gates) (s ∷ spots) = let rest = moved_length zero gates spots in omega (arith, rest)
moved_length (suc n) gates (s ∷ spots) = let rest = moved_length n gates spots in omega (arith, rest)

-- one more place gets its gate
pub moved_more : (n : ℕ) (gates : List ℕ) (gate at : ℕ) (spots : List Spot) (spot : Spot) → at ≡ n + length gates → slice_get (moved n gates spots) at ≡ Some spot
    → set (moved n gates spots) at (record spot { gate = gate }) ≡ moved n (gates ++ gate ∷ []) spots
unfolding moved
moved_more n gates gate at [] spot is there = absurd cc
moved_more zero [] gate zero (s ∷ spots) spot is there =
    let same : s ≡ spot = cc in
    ap (λ (x : Spot). record x { gate = gate } ∷ spots) (sym same) ∙ ap (λ (l : List Spot). record s { gate = gate } ∷ l) (sym (moved_none_here spots))
moved_more zero [] gate (suc at) (s ∷ spots) spot is there = absurd (omega (arith, is))
moved_more zero (g ∷ gates) gate zero (s ∷ spots) spot is there = absurd (omega (arith, is))
moved_more zero (g ∷ gates) gate (suc at) (s ∷ spots) spot is there =
    ap (λ (l : List Spot). record s { gate = g } ∷ l) (moved_more zero gates gate at spots spot (omega (arith, is)) there)
moved_more (suc n) gates gate zero (s ∷ spots) spot is there = absurd (omega (arith, is))
moved_more (suc n) gates gate (suc at) (s ∷ spots) spot is there =
    ap (λ (l : List Spot). s ∷ l) (moved_more n gates gate at spots spot (omega (arith, is)) there)
