-- Removing a number from a heap: the last pair takes its place.
use Rattle.std.proofs.Common.{ℕ, ◌<◌, ◌≤◌, ◌≡◌, ◌≢◌, inl, inr, List, [], ◌∷◌, ◌++◌, Option, Some, None, length, set, slice_get, option_map, ap, refl, sym, arith, ◌∙◌}
use Rattle.std.proofs.lemmas.Bool.{cases_eq}
use Rattle.std.proofs.lemmas.List.{length-set, get_or_append_left, length_push}
use Rattle.std.proofs.lemmas.Option.{same_Some, none-some, slice_get_within}
use Rattle.due_heap.specs.declared.pair.Pair.{Pair}
use Rattle.due_heap.specs.declared.pair.Slot.{Slot}
use Rattle.due_heap.specs.Keeping.{slot_at, place_at, place_of, PointsBut, SameElsewhere, Places, IsHeap}
use Rattle.due_heap.specs.Order.{rank, rank_at, IsOrdered, IsOrderedBut}
use Rattle.due_heap.proofs.ExchangeLemmas.{no_pair}
use Rattle.due_heap.proofs.OrderLemmas.{changed_at}
use Rattle.due_heap.proofs.PlaceLemmas.{slot_within, slot-set_same, slot-set_other, get-push_other, get-push_last}
use Rattle.due_heap.proofs.PointLemmas.{one_place, elsewhere_on}

-- a number was removed from the table, and the last pair from the end
pub record IsTaken (slot : Slot) (number : ℕ) (last : Pair) (pairs : List Pair) (slots slots' : List (Option Slot)) : Type 0 where
  pub kept : IsHeap slot.heap (pairs ++ last ∷ []) slots
  pub there : slot_at number slots ≡ Some slot
  pub gone : slots' ≡ set slots number None

pub taken_is : (slot : Slot) (number : ℕ) (last : Pair) (pairs all : List Pair) (slots : List (Option Slot)) → all ≡ pairs ++ last ∷ [] → IsHeap slot.heap all slots → slot_at number slots ≡ Some slot → IsTaken slot number last pairs slots (set slots number None)
taken_is slot number last pairs all slots split kept there =
    record { kept = rw (← split) kept; there = there; gone = refl }

pub taken_listed : (slot : Slot) (number : ℕ) (slots : List (Option Slot)) → slot_at number slots ≡ Some slot → number < length slots
taken_listed slot number slots there = slot_within slots number slot there

-- the place of the removed number
stood : (slot : Slot) (number : ℕ) (last : Pair) (pairs : List Pair) (slots slots' : List (Option Slot)) → IsTaken slot number last pairs slots slots' → slice_get (pairs ++ last ∷ []) slot.at ≡ Some (record { due = slot.due; number = number })
stood slot number last pairs slots slots' t = t.kept.points.from number slot t.there refl

-- a pair before the last one
in_front : (last : Pair) (pairs : List Pair) (i : ℕ) (pair : Pair) → slice_get pairs i ≡ Some pair → slice_get (pairs ++ last ∷ []) i ≡ Some pair
in_front last pairs i pair found =
    let within = slice_get_within pairs i pair found in
    get-push_other pairs last i (λ e. omega (arith, e, within)) ∙ found

-- a pair at another place has another number
other_number : (slot : Slot) (number : ℕ) (last : Pair) (pairs : List Pair) (slots slots' : List (Option Slot)) → IsTaken slot number last pairs slots slots' → (i : ℕ) (pair : Pair) → i ≢ slot.at → slice_get (pairs ++ last ∷ []) i ≡ Some pair → pair.number ≢ number
other_number slot number last pairs slots slots' t i pair other found same =
    other (one_place slot.heap (pairs ++ last ∷ []) slots t.kept.points i slot.at pair (record { due = slot.due; number = number }) found (stood slot number last pairs slots slots' t) same)

-- the table had each entry that remains
had : (slot : Slot) (number : ℕ) (last : Pair) (pairs : List Pair) (slots slots' : List (Option Slot)) → IsTaken slot number last pairs slots slots' → (n : ℕ) → n ≢ number → slot_at n slots' ≡ slot_at n slots
had slot number last pairs slots slots' t n other = ap (slot_at n) t.gone ∙ slot-set_other slots number None n other

left : (slot : Slot) (number : ℕ) (last : Pair) (pairs : List Pair) (slots slots' : List (Option Slot)) → IsTaken slot number last pairs slots slots' → slot_at number slots' ≡ None
left slot number last pairs slots slots' t =
    ap (slot_at number) t.gone ∙ slot-set_same slots number None (taken_listed slot number slots t.there)

-- a number that remains in the table is another one
still : (slot : Slot) (number : ℕ) (last : Pair) (pairs : List Pair) (slots slots' : List (Option Slot)) → IsTaken slot number last pairs slots slots' → (n : ℕ) (s : Slot) → slot_at n slots' ≡ Some s → n ≢ number
still slot number last pairs slots slots' t n s found same =
    none-some s (sym (left slot number last pairs slots slots' t) ∙ sym (ap (λ m. slot_at m slots') same) ∙ found)

pub taken_elsewhere : (slot : Slot) (number : ℕ) (last : Pair) (pairs : List Pair) (slots slots' : List (Option Slot)) → IsTaken slot number last pairs slots slots' → SameElsewhere slot.heap slots slots'
taken_elsewhere slot number last pairs slots slots' t =
    record {
      length = ap length t.gone ∙ length-set slots number None;
      stays = λ n s not_here found.
          elim (cases_eq n number) [
            | inl same ↦ absurd (not_here (ap (λ (x : Slot). x.heap) (same_Some s slot (sym found ∙ ap (λ m. slot_at m slots) same ∙ t.there))))
            | inr other ↦ had slot number last pairs slots slots' t n other ∙ found
          ];
      was = λ n s not_here found.
          sym (had slot number last pairs slots slots' t n (still slot number last pairs slots slots' t n s found)) ∙ found;
    }

-- a number that remains in the table, other than that of the last pair, is before the last pair
stands_still : (slot : Slot) (number : ℕ) (last : Pair) (pairs : List Pair) (slots slots' : List (Option Slot)) → IsTaken slot number last pairs slots slots' → (n : ℕ) (s : Slot) → n ≢ last.number → slot_at n slots' ≡ Some s → s.heap ≡ slot.heap → slice_get pairs s.at ≡ Some (record { due = s.due; number = n })
stands_still slot number last pairs slots slots' t n s not_last found is =
    let old = sym (had slot number last pairs slots slots' t n (still slot number last pairs slots slots' t n s found)) ∙ found in
    let stands = t.kept.points.from n s old is in
    sym (get-push_other pairs last s.at (λ e. not_last (ap (λ (p : Pair). p.number) (same_Some (record { due = s.due; number = n }) last (sym stands ∙ ap (slice_get (pairs ++ last ∷ [])) e ∙ get-push_last pairs last)))))
    ∙ stands

pub last_may_come : (slot : Slot) (number : ℕ) (last : Pair) (pairs : List Pair) (slots slots' : List (Option Slot)) → IsTaken slot number last pairs slots slots' → slot.at < length pairs → PointsBut slot.at last.number slot.heap pairs slots'
last_may_come slot number last pairs slots slots' t front =
    let points = t.kept.points in
    let all = pairs ++ last ∷ [] in
    record {
      to = λ i pair other found.
          let stands = in_front last pairs i pair found in
          had slot number last pairs slots slots' t pair.number (other_number slot number last pairs slots slots' t i pair other stands)
          ∙ points.to i pair stands;
      apart = λ i pair other found same.
          let within = slice_get_within pairs i pair found in
          let place = one_place slot.heap all slots points i (length pairs) pair last (in_front last pairs i pair found) (get-push_last pairs last) same in
          omega (arith, within, place);
      from = λ n s other found is. stands_still slot number last pairs slots slots' t n s other found is;
      off = λ n s other found is same.
          still slot number last pairs slots slots' t n s found
          (ap (λ (p : Pair). p.number) (same_Some (record { due = s.due; number = n }) (record { due = slot.due; number = number }) (sym (in_front last pairs s.at _ (stands_still slot number last pairs slots slots' t n s other found is)) ∙ ap (slice_get all) same ∙ stood slot number last pairs slots slots' t)));
      own = λ s found.
          let old = sym (had slot number last pairs slots slots' t last.number (still slot number last pairs slots slots' t last.number s found)) ∙ found in
          ap (λ (x : Slot). x.heap) (same_Some s (record { heap = slot.heap; at = length pairs; due = last.due }) (sym old ∙ points.to (length pairs) last (get-push_last pairs last)));
    }

pub last_listed : (slot : Slot) (number : ℕ) (last : Pair) (pairs : List Pair) (slots slots' : List (Option Slot)) → IsTaken slot number last pairs slots slots' → last.number < length slots'
last_listed slot number last pairs slots slots' t =
    let listed = slot_within slots last.number _ (t.kept.points.to (length pairs) last (get-push_last pairs last)) in
    omega (arith, listed, ap length t.gone, length-set slots number None)

-- the ranks before the last pair don't change
ranks_in_front : (last : Pair) (pairs : List Pair) (k : ℕ) → k < length pairs → rank_at pairs k ≡ rank_at (pairs ++ last ∷ []) k
ranks_in_front last pairs k within = ap rank (sym (get_or_append_left pairs (last ∷ []) no_pair k within))

pub front_order : (last : Pair) (pairs : List Pair) (at : ℕ) → IsOrdered (rank_at (pairs ++ last ∷ [])) (length (pairs ++ last ∷ [])) → IsOrderedBut at (rank_at pairs) (length pairs)
front_order last pairs at ordered =
    changed_at (rank_at (pairs ++ last ∷ [])) (rank_at pairs) (length (pairs ++ last ∷ [])) (length pairs) at (omega (arith, length_push pairs last)) (λ k within other. ranks_in_front last pairs k within) ordered

-- the number was removed, the last pair has its place, and every other number keeps its own
pub replaced_places : (slot : Slot) (number : ℕ) (last : Pair) (pairs : List Pair) (slots slots' slots'' : List (Option Slot)) → IsTaken slot number last pairs slots slots' → slot.at < length pairs → Places slot.heap last.number (Some (record { heap = slot.heap; due = last.due })) slots' slots'' → Places slot.heap number None slots slots''
replaced_places slot number last pairs slots slots' slots'' t front put =
    let last_stands = get-push_last pairs last in
    let not_last : last.number ≢ number = other_number slot number last pairs slots slots' t (length pairs) last (λ e. omega (arith, e)) last_stands in
    record {
      here = put.others number (λ e. not_last (sym e)) ∙ ap (option_map place_of) (left slot number last pairs slots slots' t);
      others = λ n other.
          elim (cases_eq n last.number) [
            | inl same ↦ ap (λ m. place_at m slots'') same ∙ put.here ∙ sym (ap (option_map place_of) (t.kept.points.to (length pairs) last last_stands)) ∙ sym (ap (λ m. place_at m slots) same)
            | inr apart ↦ put.others n apart ∙ ap (option_map place_of) (had slot number last pairs slots slots' t n other)
          ];
      elsewhere = elsewhere_on slot.heap slots slots' slots'' (taken_elsewhere slot number last pairs slots slots' t) put.elsewhere;
    }

-- where the last pair was the number's own, nothing else remains to be done
pub last_kept : (slot : Slot) (number : ℕ) (last : Pair) (pairs : List Pair) (slots slots' : List (Option Slot)) → IsTaken slot number last pairs slots slots' → length pairs ≤ slot.at → IsHeap slot.heap pairs slots'
last_kept slot number last pairs slots slots' t behind =
    let all = pairs ++ last ∷ [] in
    let its = stood slot number last pairs slots slots' t in
    let within = slice_get_within all slot.at (record { due = slot.due; number = number }) its in
    let place : slot.at ≡ length pairs = omega (arith, within, length_push pairs last) in
    let own : last.number ≡ number = ap (λ (p : Pair). p.number) (same_Some last (record { due = slot.due; number = number }) (sym (get-push_last pairs last) ∙ ap (slice_get all) (sym place) ∙ its)) in
    record {
      points = record {
        to = λ i pair found.
            let stands = in_front last pairs i pair found in
            let front = slice_get_within pairs i pair found in
            had slot number last pairs slots slots' t pair.number (other_number slot number last pairs slots slots' t i pair (λ e. omega (arith, e, front, behind)) stands)
            ∙ t.kept.points.to i pair stands;
        from = λ n s found is.
            stands_still slot number last pairs slots slots' t n s (λ e. still slot number last pairs slots slots' t n s found (e ∙ own)) found is;
      };
      order = λ p k low high in_front_k.
          omega (arith, ranks_in_front last pairs p (omega arith), ranks_in_front last pairs k in_front_k, t.kept.order p k low high (omega (arith, length_push pairs last)));
    }
