-- Exchanging two pairs of a heap.
use Rattle.std.proofs.Common.{ℕ, ◌<◌, ◌≤◌, ◌≡◌, ◌≢◌, inl, inr, List, Option, Some, All, length, set, get_or, slice_get, swap, ap, sym, arith, ◌∙◌}
use Rattle.std.proofs.lemmas.Bool.{cases_lt}
use Rattle.std.proofs.lemmas.List.{length-set}
use Rattle.std.proofs.lemmas.List.Edits.{Swapped, swapped_from_swap, length-swap}
use Rattle.std.proofs.lemmas.Option.{slice_get-get_or, slice_get_past}
use Rattle.due_heap.specs.declared.pair.Pair.{Pair}
use Rattle.due_heap.specs.declared.pair.Slot.{Slot}
use Rattle.due_heap.specs.Keeping.{slot_at, Points, Rearranges}
use Rattle.due_heap.specs.Order.{rank, rank_at}
use Rattle.due_heap.proofs.PlaceLemmas.{slot_within, slot-set_same, slot-set_other}
use Rattle.due_heap.proofs.PointLemmas.{one_place, exchanged}

abbrev pub no_pair : Pair
no_pair = record { due = 0; number = 0 }

-- the pair at a place
abbrev pub pair_at : List Pair → ℕ → Pair
pair_at pairs i = get_or pairs i no_pair

pub pair_is : (pairs : List Pair) (i : ℕ) → i < length pairs → slice_get pairs i ≡ Some (pair_at pairs i)
pair_is pairs i within = slice_get-get_or pairs i no_pair within

-- the numbers of a heap are in the table
pub number_within : (heap : ℕ) (pairs : List Pair) (slots : List (Option Slot)) (i : ℕ) → Points heap pairs slots → i < length pairs → (pair_at pairs i).number < length slots
number_within heap pairs slots i points within =
    slot_within slots (pair_at pairs i).number _ (points.to i (pair_at pairs i) (pair_is pairs i within))

pub numbers_few : (heap : ℕ) (pairs : List Pair) (slots : List (Option Slot)) → Points heap pairs slots → length slots ≤ 1048576 → All (λ pair. pair.number < 1048576) pairs
numbers_few heap pairs slots points few = λ k d within.
    let there = points.to k (get_or pairs k d) (slice_get-get_or pairs k d within) in
    let listed = slot_within slots (get_or pairs k d).number (record { heap = heap; at = k; due = (get_or pairs k d).due }) there in
    omega (arith, listed)

-- so are those that were exchanged
pub exchange_within : (heap a b : ℕ) (pairs pairs' : List Pair) (slots : List (Option Slot)) → Points heap pairs slots → a < length pairs → b < length pairs → pairs' ≡ swap pairs a b → ((pair_at pairs' a).number < length slots) × ((pair_at pairs' b).number < length slots)
exchange_within heap a b pairs pairs' slots points a_in b_in swapped =
    let s = swapped_from_swap pairs pairs' a b no_pair a_in b_in swapped in (
      omega (arith, ap (λ (p : Pair). p.number) s.0, number_within heap pairs slots b points b_in),
      omega (arith, ap (λ (p : Pair). p.number) s.1, number_within heap pairs slots a points a_in),
    )

abbrev noted : ℕ → ℕ → Pair → List (Option Slot) → List (Option Slot)
noted heap at pair slots = set slots pair.number (Some (record { heap = heap; at = at; due = pair.due }))

pub exchange_moves : (heap a b : ℕ) (pairs pairs' : List Pair) (slots slots₁ slots' : List (Option Slot)) → Points heap pairs slots → a < length pairs → b < length pairs → a < b → pairs' ≡ swap pairs a b → slots₁ ≡ noted heap a (pair_at pairs' a) slots → slots' ≡ noted heap b (pair_at pairs' b) slots₁ → Rearranges heap pairs slots pairs' slots'
exchange_moves heap a b pairs pairs' slots slots₁ slots' points a_in b_in less swapped first next =
    let s = swapped_from_swap pairs pairs' a b no_pair a_in b_in swapped in
    let as_many : length pairs' ≡ length pairs = ap length swapped ∙ length-swap pairs a b in
    let one = pair_at pairs a in
    let other = pair_at pairs b in
    let one_was = pair_is pairs a a_in in
    let other_was = pair_is pairs b b_in in
    let apart : one.number ≢ other.number = λ e. let same = one_place heap pairs slots points a b one other one_was other_was e in omega (arith, same) in
    let one_in = number_within heap pairs slots a points a_in in
    let other_in = number_within heap pairs slots b points b_in in
    let first_is : slots₁ ≡ noted heap a other slots = first ∙ ap (λ (p : Pair). noted heap a p slots) s.0 in
    let next_is : slots' ≡ noted heap b one slots₁ = next ∙ ap (λ (p : Pair). noted heap b p slots₁) s.1 in
    let long₁ : length slots₁ ≡ length slots = ap length first_is ∙ length-set slots other.number _ in
    let one_in₁ : one.number < length slots₁ = omega (arith, one_in, long₁) in
    exchanged heap a b pairs pairs' slots slots' points as_many
    (record {
      one = one;
      other = other;
      two = λ e. omega (arith, e);
      one_was = one_was;
      other_was = other_was;
      one_is = pair_is pairs' b (omega (arith, as_many)) ∙ ap Some s.1;
      other_is = pair_is pairs' a (omega (arith, as_many)) ∙ ap Some s.0;
      rest = λ i not_a not_b.
          elim (cases_lt i (length pairs)) [
            | inl within ↦ pair_is pairs' i (omega (arith, as_many)) ∙ ap Some (s.2 i not_a not_b) ∙ sym (pair_is pairs i within)
            | inr past ↦ slice_get_past pairs' i (omega (arith, as_many)) ∙ sym (slice_get_past pairs i past)
          ];
      one_slot = ap (slot_at one.number) next_is ∙ slot-set_same slots₁ one.number _ one_in₁;
      other_slot = ap (slot_at other.number) next_is ∙ slot-set_other slots₁ one.number _ other.number (λ e. apart (sym e)) ∙ ap (slot_at other.number) first_is ∙ slot-set_same slots other.number _ other_in;
      others = λ n not_one not_other. ap (slot_at n) next_is ∙ slot-set_other slots₁ one.number _ n not_one ∙ ap (slot_at n) first_is ∙ slot-set_other slots other.number _ n not_other;
      as_long = ap length next_is ∙ length-set slots₁ one.number _ ∙ long₁;
    })

-- the ranks are exchanged with the pairs
pub ranks_exchanged : (a b : ℕ) (pairs pairs' : List Pair) → a < length pairs → b < length pairs → pairs' ≡ swap pairs a b → Swapped (rank_at pairs) (rank_at pairs') a b
ranks_exchanged a b pairs pairs' a_in b_in swapped =
    let s = swapped_from_swap pairs pairs' a b no_pair a_in b_in swapped in
    (ap rank s.0, ap rank s.1, λ m not_a not_b. ap rank (s.2 m not_a not_b))
