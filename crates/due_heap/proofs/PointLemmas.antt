-- The table and the heaps point at each other, when pairs are exchanged or put somewhere.
use Rattle.std.proofs.Common.{ℕ, ◌≡◌, ◌≢◌, inl, inr, List, Option, Some, length, slice_get, ap, refl, sym, ◌∙◌}
use Rattle.std.proofs.lemmas.Bool.{cases_eq}
use Rattle.std.proofs.lemmas.Option.{same_Some}
use Rattle.due_heap.specs.declared.pair.Pair.{Pair}
use Rattle.due_heap.specs.declared.pair.Slot.{Slot}
use Rattle.due_heap.specs.Keeping.{slot_at, place_at, Points, PointsBut, SameElsewhere, Rearranges}

-- the entry of a place, with equal names for the place and the pair
noted_as : (heap i at : ℕ) (found pair : Pair) (slots : List (Option Slot)) → i ≡ at → Some found ≡ Some pair → slot_at pair.number slots ≡ Some (record { heap = heap; at = at; due = pair.due }) → slot_at found.number slots ≡ Some (record { heap = heap; at = i; due = found.due })
noted_as heap i at found pair slots place same noted = rw (place, same_Some found pair same) noted

stands_as : (heap n at : ℕ) (found : Slot) (pair : Pair) (pairs : List Pair) → n ≡ pair.number → Some found ≡ Some (record { heap = heap; at = at; due = pair.due }) → slice_get pairs at ≡ Some pair → slice_get pairs found.at ≡ Some (record { due = found.due; number = n })
stands_as heap n at found pair pairs number same stands = rw (number, same_Some found (record { heap = heap; at = at; due = pair.due }) same) stands

in_heap : (heap at due : ℕ) (found : Slot) → Some found ≡ Some (record { heap = heap; at = at; due = due }) → found.heap ≡ heap
in_heap heap at due found same = ap (λ (s : Slot). s.heap) (same_Some found (record { heap = heap; at = at; due = due }) same)

-- a pair was written to one place and into the table
pub record IsPut (heap at : ℕ) (pair : Pair) (pairs pairs' : List Pair) (slots slots' : List (Option Slot)) : Type 0 where
  pub here : slice_get pairs' at ≡ Some pair
  pub rest : (i : ℕ) → i ≢ at → slice_get pairs' i ≡ slice_get pairs i
  pub slot : slot_at pair.number slots' ≡ Some (record { heap = heap; at = at; due = pair.due })
  pub others : (n : ℕ) → n ≢ pair.number → slot_at n slots' ≡ slot_at n slots
  pub as_long : length slots' ≡ length slots

pub put_points : (heap at : ℕ) (pair : Pair) (pairs pairs' : List Pair) (slots slots' : List (Option Slot)) → PointsBut at pair.number heap pairs slots → IsPut heap at pair pairs pairs' slots slots' → Points heap pairs' slots'
put_points heap at pair pairs pairs' slots slots' points put =
    record {
      to = λ i other found.
          elim (cases_eq i at) [
            | inl same ↦ noted_as heap i at other pair slots' same (sym found ∙ ap (slice_get pairs') same ∙ put.here) put.slot
            | inr apart ↦
                let old = sym (put.rest i apart) ∙ found in
                put.others other.number (points.apart i other apart old) ∙ points.to i other apart old
          ];
      from = λ n slot found is.
          elim (cases_eq n pair.number) [
            | inl same ↦ stands_as heap n at slot pair pairs' same (sym found ∙ ap (λ m. slot_at m slots') same ∙ put.slot) put.here
            | inr apart ↦
                let old = sym (put.others n apart) ∙ found in
                put.rest slot.at (points.off n slot apart old is) ∙ points.from n slot apart old is
          ];
    }

pub put_elsewhere : (heap at : ℕ) (pair : Pair) (pairs pairs' : List Pair) (slots slots' : List (Option Slot)) → PointsBut at pair.number heap pairs slots → IsPut heap at pair pairs pairs' slots slots' → SameElsewhere heap slots slots'
put_elsewhere heap at pair pairs pairs' slots slots' points put =
    record {
      length = put.as_long;
      stays = λ n slot not_here found.
          elim (cases_eq n pair.number) [
            | inl same ↦ absurd (not_here (points.own slot (ap (λ m. slot_at m slots) (sym same) ∙ found)))
            | inr apart ↦ put.others n apart ∙ found
          ];
      was = λ n slot not_here found.
          elim (cases_eq n pair.number) [
            | inl same ↦ absurd (not_here (in_heap heap at pair.due slot (sym found ∙ ap (λ m. slot_at m slots') same ∙ put.slot)))
            | inr apart ↦ sym (put.others n apart) ∙ found
          ];
    }

-- two pairs were exchanged, in the table too
pub record IsExchanged (heap a b : ℕ) (pairs pairs' : List Pair) (slots slots' : List (Option Slot)) : Type 0 where
  pub one : Pair
  pub other : Pair
  pub two : a ≢ b
  pub one_was : slice_get pairs a ≡ Some one
  pub other_was : slice_get pairs b ≡ Some other
  pub one_is : slice_get pairs' b ≡ Some one
  pub other_is : slice_get pairs' a ≡ Some other
  pub rest : (i : ℕ) → i ≢ a → i ≢ b → slice_get pairs' i ≡ slice_get pairs i
  pub one_slot : slot_at one.number slots' ≡ Some (record { heap = heap; at = b; due = one.due })
  pub other_slot : slot_at other.number slots' ≡ Some (record { heap = heap; at = a; due = other.due })
  pub others : (n : ℕ) → n ≢ one.number → n ≢ other.number → slot_at n slots' ≡ slot_at n slots
  pub as_long : length slots' ≡ length slots

-- a number is at one place of a heap
pub one_place : (heap : ℕ) (pairs : List Pair) (slots : List (Option Slot)) → Points heap pairs slots → (i j : ℕ) (pair other : Pair) → slice_get pairs i ≡ Some pair → slice_get pairs j ≡ Some other → pair.number ≡ other.number → i ≡ j
one_place heap pairs slots points i j pair other here there same =
    ap (λ (s : Slot). s.at) (same_Some (record { heap = heap; at = i; due = pair.due }) (record { heap = heap; at = j; due = other.due }) (sym (points.to i pair here) ∙ ap (λ n. slot_at n slots) same ∙ points.to j other there))

pub exchanged_points : (heap a b : ℕ) (pairs pairs' : List Pair) (slots slots' : List (Option Slot)) → Points heap pairs slots → IsExchanged heap a b pairs pairs' slots slots' → Points heap pairs' slots'
exchanged_points heap a b pairs pairs' slots slots' points x =
    record {
      to = λ i pair found.
          elim (cases_eq i a) [
            | inl same ↦ noted_as heap i a pair x.other slots' same (sym found ∙ ap (slice_get pairs') same ∙ x.other_is) x.other_slot
            | inr not_a ↦
                elim (cases_eq i b) [
                  | inl same ↦ noted_as heap i b pair x.one slots' same (sym found ∙ ap (slice_get pairs') same ∙ x.one_is) x.one_slot
                  | inr not_b ↦
                      let old = sym (x.rest i not_a not_b) ∙ found in
                      x.others pair.number
                      (λ e. not_a (one_place heap pairs slots points i a pair x.one old x.one_was e))
                      (λ e. not_b (one_place heap pairs slots points i b pair x.other old x.other_was e))
                      ∙ points.to i pair old
                ]
          ];
      from = λ n slot found is.
          elim (cases_eq n x.one.number) [
            | inl same ↦ stands_as heap n b slot x.one pairs' same (sym found ∙ ap (λ m. slot_at m slots') same ∙ x.one_slot) x.one_is
            | inr not_one ↦
                elim (cases_eq n x.other.number) [
                  | inl same ↦ stands_as heap n a slot x.other pairs' same (sym found ∙ ap (λ m. slot_at m slots') same ∙ x.other_slot) x.other_is
                  | inr not_other ↦
                      let old = sym (x.others n not_one not_other) ∙ found in
                      let stood = points.from n slot old is in
                      x.rest slot.at
                      (λ e. not_one (ap (λ (p : Pair). p.number) (same_Some (record { due = slot.due; number = n }) x.one (sym stood ∙ ap (slice_get pairs) e ∙ x.one_was))))
                      (λ e. not_other (ap (λ (p : Pair). p.number) (same_Some (record { due = slot.due; number = n }) x.other (sym stood ∙ ap (slice_get pairs) e ∙ x.other_was))))
                      ∙ stood
                ]
          ];
    }

exchanged_places : (heap a b : ℕ) (pairs pairs' : List Pair) (slots slots' : List (Option Slot)) → Points heap pairs slots → IsExchanged heap a b pairs pairs' slots slots' → (n : ℕ) → place_at n slots' ≡ place_at n slots
exchanged_places heap a b pairs pairs' slots slots' points x n =
    elim (cases_eq n x.one.number) [
      | inl same ↦ rw (same, x.one_slot, points.to a x.one x.one_was) refl
      | inr not_one ↦
          elim (cases_eq n x.other.number) [
            | inl same ↦ rw (same, x.other_slot, points.to b x.other x.other_was) refl
            | inr not_other ↦ rw (x.others n not_one not_other) refl
          ]
    ]

exchanged_elsewhere : (heap a b : ℕ) (pairs pairs' : List Pair) (slots slots' : List (Option Slot)) → Points heap pairs slots → IsExchanged heap a b pairs pairs' slots slots' → SameElsewhere heap slots slots'
exchanged_elsewhere heap a b pairs pairs' slots slots' points x =
    record {
      length = x.as_long;
      stays = λ n slot not_here found.
          elim (cases_eq n x.one.number) [
            | inl same ↦ absurd (not_here (in_heap heap a x.one.due slot (sym found ∙ ap (λ m. slot_at m slots) same ∙ points.to a x.one x.one_was)))
            | inr not_one ↦
                elim (cases_eq n x.other.number) [
                  | inl same ↦ absurd (not_here (in_heap heap b x.other.due slot (sym found ∙ ap (λ m. slot_at m slots) same ∙ points.to b x.other x.other_was)))
                  | inr not_other ↦ x.others n not_one not_other ∙ found
                ]
          ];
      was = λ n slot not_here found.
          elim (cases_eq n x.one.number) [
            | inl same ↦ absurd (not_here (in_heap heap b x.one.due slot (sym found ∙ ap (λ m. slot_at m slots') same ∙ x.one_slot)))
            | inr not_one ↦
                elim (cases_eq n x.other.number) [
                  | inl same ↦ absurd (not_here (in_heap heap a x.other.due slot (sym found ∙ ap (λ m. slot_at m slots') same ∙ x.other_slot)))
                  | inr not_other ↦ sym (x.others n not_one not_other) ∙ found
                ]
          ];
    }

pub exchanged : (heap a b : ℕ) (pairs pairs' : List Pair) (slots slots' : List (Option Slot)) → Points heap pairs slots → length pairs' ≡ length pairs → IsExchanged heap a b pairs pairs' slots slots' → Rearranges heap pairs slots pairs' slots'
exchanged heap a b pairs pairs' slots slots' points as_many x =
    record {
      points = exchanged_points heap a b pairs pairs' slots slots' points x;
      as_many = as_many;
      places = exchanged_places heap a b pairs pairs' slots slots' points x;
      elsewhere = exchanged_elsewhere heap a b pairs pairs' slots slots' points x;
    }

pub elsewhere_on : (heap : ℕ) (a b c : List (Option Slot)) → SameElsewhere heap a b → SameElsewhere heap b c → SameElsewhere heap a c
elsewhere_on heap a b c first next =
    record {
      length = next.length ∙ first.length;
      stays = λ n slot h found. next.stays n slot h (first.stays n slot h found);
      was = λ n slot h found. first.was n slot h (next.was n slot h found);
    }

-- one move after another
pub moved_on : (heap : ℕ) (pairs pairs' pairs'' : List Pair) (slots slots' slots'' : List (Option Slot)) → Rearranges heap pairs slots pairs' slots' → Rearranges heap pairs' slots' pairs'' slots'' → Rearranges heap pairs slots pairs'' slots''
moved_on heap pairs pairs' pairs'' slots slots' slots'' first next =
    record {
      points = next.points;
      as_many = next.as_many ∙ first.as_many;
      places = λ n. next.places n ∙ first.places n;
      elsewhere = elsewhere_on heap slots slots' slots'' first.elsewhere next.elsewhere;
    }
