-- Putting a pair into a heap.
use Rattle.std.proofs.Common.{ℕ, ◌<◌, ◌≡◌, List, [], ◌∷◌, ◌++◌, Option, Some, None, length, set, slice_get, option_map, ap, refl, sym, arith, ◌∙◌}
use Rattle.std.proofs.lemmas.List.{length-set, get_or_append_left, length_push}
use Rattle.std.proofs.lemmas.Option.{same_Some, none-some, slice_get_within}
use Rattle.due_heap.specs.declared.pair.Pair.{Pair}
use Rattle.due_heap.specs.declared.pair.Slot.{Slot}
use Rattle.due_heap.specs.Keeping.{slot_at, place_of, Points, PointsBut, Rearranges, Places}
use Rattle.due_heap.specs.Order.{rank, rank_at, IsOrdered, IsOrderedBut}
use Rattle.due_heap.proofs.ExchangeLemmas.{no_pair}
use Rattle.due_heap.proofs.OrderLemmas.{changed_at, added_at}
use Rattle.due_heap.proofs.PlaceLemmas.{get-set_same, get-set_other, slot-set_same, slot-set_other, get-push_other}
use Rattle.due_heap.proofs.PointLemmas.{IsPut, put_elsewhere, one_place, elsewhere_on}

-- it overwrites the one before
pub put_is : (heap at : ℕ) (pair : Pair) (pairs : List Pair) (slots slots' : List (Option Slot)) → at < length pairs → pair.number < length slots → slots' ≡ set slots pair.number (Some (record { heap = heap; at = at; due = pair.due })) → IsPut heap at pair pairs (set pairs at pair) slots slots'
put_is heap at pair pairs slots slots' within listed is =
    record {
      here = get-set_same pairs at pair within;
      rest = λ i other. get-set_other pairs at pair i other;
      slot = ap (slot_at pair.number) is ∙ slot-set_same slots pair.number _ listed;
      others = λ n other. ap (slot_at n) is ∙ slot-set_other slots pair.number _ n other;
      as_long = ap length is ∙ length-set slots pair.number _;
    }

-- it has its place, and every other number keeps its own
pub put_places : (heap at : ℕ) (pair : Pair) (pairs pairs' pairs'' : List Pair) (slots slots' slots'' : List (Option Slot)) → PointsBut at pair.number heap pairs slots → IsPut heap at pair pairs pairs' slots slots' → Rearranges heap pairs' slots' pairs'' slots'' → Places heap pair.number (Some (record { heap = heap; due = pair.due })) slots slots''
put_places heap at pair pairs pairs' pairs'' slots slots' slots'' points put moved =
    record {
      here = moved.places pair.number ∙ ap (option_map place_of) put.slot;
      others = λ n other. moved.places n ∙ ap (option_map place_of) (put.others n other);
      elsewhere = elsewhere_on heap slots slots' slots'' (put_elsewhere heap at pair pairs pairs' slots slots' points put) moved.elsewhere;
    }

-- the replacement of a pair with a slot may have any place
pub points_but : (pairs : List Pair) (slots : List (Option Slot)) (slot : Slot) (number : ℕ) → Points slot.heap pairs slots → slot_at number slots ≡ Some slot → PointsBut slot.at number slot.heap pairs slots
points_but pairs slots slot number points there =
    let stands = points.from number slot there refl in
    record {
      to = λ i pair other found. points.to i pair found;
      apart = λ i pair other found same. other (one_place slot.heap pairs slots points i slot.at pair (record { due = slot.due; number = number }) found stands same);
      from = λ n s other found is. points.from n s found is;
      off = λ n s other found is same. other (ap (λ (p : Pair). p.number) (same_Some (record { due = s.due; number = n }) (record { due = slot.due; number = number }) (sym (points.from n s found is) ∙ ap (slice_get pairs) same ∙ stands)));
      own = λ s found. ap (λ (t : Slot). t.heap) (same_Some s slot (sym found ∙ there));
    }

pub order_but : (pairs : List Pair) (at : ℕ) → IsOrdered (rank_at pairs) (length pairs) → IsOrderedBut at (rank_at pairs) (length pairs)
order_but pairs at ordered =
    changed_at (rank_at pairs) (rank_at pairs) (length pairs) (length pairs) at (omega arith) (λ k within other. refl) ordered

-- a new pair may be added at the end
pub added_points : (heap : ℕ) (pair : Pair) (pairs : List Pair) (slots : List (Option Slot)) → Points heap pairs slots → slot_at pair.number slots ≡ None → PointsBut (length pairs) pair.number heap (pairs ++ pair ∷ []) slots
added_points heap pair pairs slots points new =
    record {
      to = λ i p other found. points.to i p (sym (get-push_other pairs pair i other) ∙ found);
      apart = λ i p other found same. none-some _ (sym new ∙ sym (ap (λ n. slot_at n slots) same) ∙ points.to i p (sym (get-push_other pairs pair i other) ∙ found));
      from = λ n s other found is.
          let stands = points.from n s found is in
          let within = slice_get_within pairs s.at (record { due = s.due; number = n }) stands in
          get-push_other pairs pair s.at (λ e. omega (arith, e, within)) ∙ stands;
      off = λ n s other found is same.
          let within = slice_get_within pairs s.at (record { due = s.due; number = n }) (points.from n s found is) in
          omega (arith, same, within);
      own = λ s found. absurd (none-some s (sym new ∙ found));
    }

pub added_order : (pair : Pair) (pairs : List Pair) → IsOrdered (rank_at pairs) (length pairs) → IsOrderedBut (length pairs) (rank_at (pairs ++ pair ∷ [])) (length (pairs ++ pair ∷ []))
added_order pair pairs ordered =
    rw (length_push pairs pair)
    (added_at (rank_at pairs) (rank_at (pairs ++ pair ∷ [])) (length pairs) (λ k within. ap rank (get_or_append_left pairs (pair ∷ []) no_pair k within)) ordered)
