-- The table counts as many numbers that are due in a heap as the heap counts pairs.
use Rattle.std.proofs.Common.{◌≡◌, ◌≢◌, ℕ, zero, suc, ◌+◌, ◌-◌, ◌≤◌, ◌==◌, ◌&&◌, inl, inr, List, [], ◌∷◌, Bool, true, false, cond, nat_le, Option, Some, None, map, refl, sym, ap, ◌∙◌, arith}
use Rattle.std.specs.Prelude.{count_by, option_map, slice_get}
use Rattle.std.specs.Option.{option_and_then}
use Rattle.std.proofs.lemmas.Bool.{and_parts, cases_Bool, cases_eq, eq-eqb, eqb-true, leb-true}
use Rattle.std.proofs.lemmas.Bool.Decides.{nat_tests}
use Rattle.std.proofs.lemmas.List.Sums.{sum_by-cons}
use Rattle.due_heap.specs.Counting.{is_due_in}
use Rattle.due_heap.specs.Keeping.{Points, place_of, slot_at}
use Rattle.due_heap.specs.declared.pair.Pair.{Pair}
use Rattle.due_heap.specs.declared.pair.Slot.{Slot}

-- a count that differs from another at only one place
abbrev Table : Type 0
Table = List (Option Slot)

count_same : (q r : Option Slot → Bool) (slots : Table) → ((n : ℕ) (o : Option Slot) → slice_get slots n ≡ Some o → q o ≡ r o)
    → count_by q slots ≡ count_by r slots
count_same q r [] same = refl
count_same q r (o ∷ slots) same =
    let first : ◌≡◌ {A = ℕ} (cond (q o) 1 0) (cond (r o) 1 0) = ap (λ b. cond b 1 0) (same zero o refl) in
    let one = sum_by-cons (λ x. cond (q x) 1 0) o slots in
    let other = sum_by-cons (λ x. cond (r x) 1 0) o slots in
    omega (arith, first, one, other, count_same q r slots (λ n x there. same (suc n) x there))

count_but : (q r : Option Slot → Bool) (at : ℕ) (slots : Table) (s : Option Slot) → slice_get slots at ≡ Some s → r s ≡ false
    → ((n : ℕ) (o : Option Slot) → n ≢ at → slice_get slots n ≡ Some o → q o ≡ r o) → count_by q slots ≡ count_by r slots + cond (q s) 1 0
count_but q r at [] s there none same = absurd (cc)
count_but q r zero (o ∷ slots) s there none same =
    let is : o ≡ s = cc in
    let first : ◌≡◌ {A = ℕ} (cond (r o) 1 0) 0 = ap (λ b. cond b 1 0) (ap r is ∙ none) in
    let here : ◌≡◌ {A = ℕ} (cond (q o) 1 0) (cond (q s) 1 0) = ap (λ x. cond (q x) 1 0) is in
    let rest : count_by q slots ≡ count_by r slots = count_same q r slots (λ n x found. same (suc n) x (λ e. omega arith) found) in
    let one = sum_by-cons (λ x. cond (q x) 1 0) o slots in
    let other = sum_by-cons (λ x. cond (r x) 1 0) o slots in
    omega (arith, first, here, rest, one, other)
count_but q r (suc at) (o ∷ slots) s there none same =
    let first : ◌≡◌ {A = ℕ} (cond (q o) 1 0) (cond (r o) 1 0) = ap (λ b. cond b 1 0) (same zero o (λ e. omega arith) refl) in
    let rest : count_by q slots ≡ count_by r slots + cond (q s) 1 0 =
    count_but q r at slots s there none (λ n x other found. same (suc n) x (λ e. other (omega arith)) found) in
    let one = sum_by-cons (λ x. cond (q x) 1 0) o slots in
    let other = sum_by-cons (λ x. cond (r x) 1 0) o slots in
    omega (arith, first, rest, one, other)

count_false : (slots : Table) → count_by (λ o. false) slots ≡ 0
count_false [] = refl
count_false (o ∷ slots) = let more = sum_by-cons (λ x. cond false 1 0) o slots in omega (arith, more, count_false slots)

-- it is in the heap, at this place or after it, and due by the moment
is_from : ℕ → ℕ → ℕ → Option Slot → Bool
is_from heap moment k None = false
is_from heap moment k (Some slot) = (slot.heap == heap) && (nat_le k slot.at && nat_le slot.due moment)

-- the rest of a heap, from a place on, and the table point at each other
record PointsFrom (k heap : ℕ) (pairs : List Pair) (slots : Table) : Type 0 where
  to : (i : ℕ) (pair : Pair) → slice_get pairs i ≡ Some pair → slice_get slots pair.number ≡ Some (Some (record { heap = heap; at = k + i; due = pair.due }))
  from : (n : ℕ) (slot : Slot) → slice_get slots n ≡ Some (Some slot) → slot.heap ≡ heap → k ≤ slot.at
      → slice_get pairs (slot.at - k) ≡ Some (record { due = slot.due; number = n })

none_from : (heap moment k : ℕ) (slots : Table) → PointsFrom k heap [] slots → (n : ℕ) (o : Option Slot) → slice_get slots n ≡ Some o
    → is_from heap moment k o ≡ false
unfolding is_from
none_from heap moment k slots points n None there = refl
none_from heap moment k slots points n (Some slot) there = elim (cases_Bool ((slot.heap == heap) && (nat_le k slot.at && nat_le slot.due moment))) [
  | inl is ↦
      let parts = and_parts _ _ is in
      let found : ◌≡◌ {A = Option Pair} None (Some (record { due = slot.due; number = n })) =
      points.from n slot there (eqb-true slot.heap heap parts.0) (leb-true k slot.at (and_parts _ _ parts.1).0) in
      absurd (cc)
  | inr not ↦ not
]

-- after the first pair
points_next : (k heap : ℕ) (pair : Pair) (pairs : List Pair) (slots : Table) → PointsFrom k heap (pair ∷ pairs) slots → PointsFrom (suc k) heap pairs slots
points_next k heap pair pairs slots points = record {
  to = λ i p found.
      let place : k + suc i ≡ suc k + i = omega arith in
      points.to (suc i) p found ∙ ap (λ at. Some (Some (record { heap = heap; at = at; due = p.due }))) place;
  from = λ n slot there same behind.
      let place : slot.at - k ≡ suc (slot.at - suc k) = omega arith in
      sym (ap (slice_get (pair ∷ pairs)) place) ∙ points.from n slot there same (omega arith);
}

number_in : Option Pair → ℕ
number_in None = 0
number_in (Some pair) = pair.number

-- another number than the first pair's is at its place or after it exactly where it is after it
other_from : (heap moment k : ℕ) (pair : Pair) (pairs : List Pair) (slots : Table) → PointsFrom k heap (pair ∷ pairs) slots
    → (n : ℕ) (o : Option Slot) → n ≢ pair.number → slice_get slots n ≡ Some o → is_from heap moment k o ≡ is_from heap moment (suc k) o
unfolding is_from number_in
other_from heap moment k pair pairs slots points n None other there = refl
other_from heap moment k pair pairs slots points n (Some slot) other there = elim (cases_Bool (slot.heap == heap)) [
  | inl same ↦ elim (cases_eq slot.at k) [
    | inl first ↦
        let place : slot.at - k ≡ 0 = omega arith in
        let found : ◌≡◌ {A = Option Pair} (Some pair) (Some (record { due = slot.due; number = n })) =
        sym (ap (slice_get (pair ∷ pairs)) place) ∙ points.from n slot there (eqb-true slot.heap heap same) (omega arith) in
        let number : pair.number ≡ n = ap number_in found in
        absurd (other (sym number))
    | inr apart ↦
        let bound : nat_le k slot.at ≡ nat_le (suc k) slot.at = grind (arith, nat_tests) in
        ap (λ b. (slot.heap == heap) && (b && nat_le slot.due moment)) bound
  ]
  | inr elsewhere ↦ rw elsewhere refl
]

first_from : (heap moment k : ℕ) (pair : Pair) → is_from heap moment k (Some (record { heap = heap; at = k + 0; due = pair.due })) ≡ nat_le pair.due moment
unfolding is_from
first_from heap moment k pair =
    let here : (heap == heap) ≡ true = eq-eqb heap heap refl in
    let bound : nat_le k (k + 0) ≡ true = grind (arith, nat_tests) in
    rw (here, bound) refl

not_behind : (heap moment k : ℕ) (pair : Pair) → is_from heap moment (suc k) (Some (record { heap = heap; at = k + 0; due = pair.due })) ≡ false
unfolding is_from
not_behind heap moment k pair =
    let here : (heap == heap) ≡ true = eq-eqb heap heap refl in
    let bound : nat_le (suc k) (k + 0) ≡ false = grind (arith, nat_tests) in
    rw (here, bound) refl

table_from : (heap moment k : ℕ) (pairs : List Pair) (slots : Table) → PointsFrom k heap pairs slots
    → count_by (is_from heap moment k) slots ≡ count_by (λ p. nat_le p.due moment) pairs
table_from heap moment k [] slots points = count_same (is_from heap moment k) (λ o. false) slots (none_from heap moment k slots points) ∙ count_false slots
table_from heap moment k (pair ∷ pairs) slots points =
    let rest : count_by (is_from heap moment (suc k)) slots ≡ count_by (λ p. nat_le p.due moment) pairs =
    table_from heap moment (suc k) pairs slots (points_next k heap pair pairs slots points) in
    let one : count_by (is_from heap moment k) slots ≡ count_by (is_from heap moment (suc k)) slots
    + cond (is_from heap moment k (Some (record { heap = heap; at = k + 0; due = pair.due }))) 1 0 =
    count_but (is_from heap moment k) (is_from heap moment (suc k)) pair.number slots (Some (record { heap = heap; at = k + 0; due = pair.due }))
    (points.to zero pair refl) (not_behind heap moment k pair) (other_from heap moment k pair pairs slots points) in
    let first : ◌≡◌ {A = ℕ} (cond (is_from heap moment k (Some (record { heap = heap; at = k + 0; due = pair.due }))) 1 0) (cond (nat_le pair.due moment) 1 0) =
    ap (λ b. cond b 1 0) (first_from heap moment k pair) in
    let more = sum_by-cons (λ p. cond (nat_le p.due moment) 1 0) pair pairs in
    omega (arith, rest, one, first, more)

one_place : (heap moment : ℕ) (o : Option Slot) → is_due_in heap moment (option_map place_of o) ≡ is_from heap moment 0 o
unfolding is_from
one_place heap moment None = refl
one_place heap moment (Some slot) =
    let bound : nat_le 0 slot.at ≡ true = grind (arith, nat_tests) in
    ap (λ b. (slot.heap == heap) && (b && nat_le slot.due moment)) (sym bound)

-- the table as places
as_places : (heap moment : ℕ) (slots : Table) → count_by (is_due_in heap moment) (map (option_map place_of) slots) ≡ count_by (is_from heap moment 0) slots
unfolding is_from
as_places heap moment [] = refl
as_places heap moment (o ∷ slots) =
    let first : is_due_in heap moment (option_map place_of o) ≡ is_from heap moment 0 o = one_place heap moment o in
    let here : ◌≡◌ {A = ℕ} (cond (is_due_in heap moment (option_map place_of o)) 1 0) (cond (is_from heap moment 0 o) 1 0) = ap (λ b. cond b 1 0) first in
    let one = sum_by-cons (λ p. cond (is_due_in heap moment p) 1 0) (option_map place_of o) (map (option_map place_of) slots) in
    let other = sum_by-cons (λ x. cond (is_from heap moment 0 x) 1 0) o slots in
    omega (arith, here, one, other, as_places heap moment slots)

twice : (o : Option (Option Slot)) (slot : Slot) → option_and_then (λ s. s) o ≡ Some slot → o ≡ Some (Some slot)
twice None slot there = absurd (cc)
twice (Some o) slot there = ap Some there

slot_there : (slots : Table) (n : ℕ) (slot : Slot) → slot_at n slots ≡ Some slot → slice_get slots n ≡ Some (Some slot)
slot_there slots n slot there = twice (slice_get slots n) slot there

pub table_counts : (heap moment : ℕ) (pairs : List Pair) (slots : Table) → Points heap pairs slots
    → count_by (is_due_in heap moment) (map (option_map place_of) slots) ≡ count_by (λ p. nat_le p.due moment) pairs
table_counts heap moment pairs slots points =
    as_places heap moment slots ∙ table_from heap moment 0 pairs slots (record {
      to = λ i pair found.
          let place : i ≡ 0 + i = omega arith in
          slot_there slots pair.number _ (points.to i pair found) ∙ ap (λ at. Some (Some (record { heap = heap; at = at; due = pair.due }))) place;
      from = λ n slot there same behind.
          let place : slot.at - 0 ≡ slot.at = omega arith in
          ap (slice_get pairs) place ∙ points.from n slot (ap (option_and_then (λ s. s)) there) same;
    })
