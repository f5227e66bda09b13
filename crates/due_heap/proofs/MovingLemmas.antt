-- A pair that moves to its place.
use Rattle.std.proofs.Common.{ℕ, ◌+◌, ◌-◌, ◌*◌, ◌/◌, ◌<◌, ◌≤◌, ◌≡◌, List, Option, length, swap, arith}
use Rattle.due_heap.specs.declared.pair.Pair.{Pair}
use Rattle.due_heap.specs.declared.pair.Slot.{Slot}
use Rattle.due_heap.specs.Keeping.{Rearranges}
use Rattle.due_heap.specs.Order.{rank_at, IsOrderedBut, IsUpToUnder, IsFromAbove}
use Rattle.due_heap.proofs.ExchangeLemmas.{pair_at, numbers_few, no_pair, ranks_exchanged}
use Rattle.due_heap.proofs.OrderLemmas.{raised, lowered}
use Rattle.due_heap.proofs.PointLemmas.{moved_on}

-- pairs were moved, and the order holds except above this place
pub record IsRising (heap at : ℕ) (pairs₀ : List Pair) (slots₀ : List (Option Slot)) (pairs : List Pair) (slots : List (Option Slot)) : Type 0 where
  pub within : at < length pairs
  pub moved : Rearranges heap pairs₀ slots₀ pairs slots
  pub order : IsOrderedBut at (rank_at pairs) (length pairs)
  pub under : IsUpToUnder at (rank_at pairs) (length pairs)

-- pairs were moved, and the order holds except below this place
pub record IsSinking (heap at : ℕ) (pairs₀ : List Pair) (slots₀ : List (Option Slot)) (pairs : List Pair) (slots : List (Option Slot)) : Type 0 where
  pub within : at < length pairs
  pub moved : Rearranges heap pairs₀ slots₀ pairs slots
  pub order : IsOrderedBut at (rank_at pairs) (length pairs)
  pub above : IsFromAbove at (rank_at pairs)

-- the number at a place of a rearranged heap
pub number_few : (heap i : ℕ) (pairs₀ : List Pair) (slots₀ : List (Option Slot)) (pairs : List Pair) (slots : List (Option Slot)) → length slots ≤ 1048576 → Rearranges heap pairs₀ slots₀ pairs slots → i < length pairs → (pair_at pairs i).number < 1048576
number_few heap i pairs₀ slots₀ pairs slots few moved within =
    numbers_few heap pairs slots moved.points few i no_pair within

pub rises_on : (heap at above : ℕ) (pairs₀ : List Pair) (slots₀ : List (Option Slot)) (pairs : List Pair) (slots : List (Option Slot)) (pairs' : List Pair) (slots' : List (Option Slot)) → 0 < at → above ≡ (at - 1) / 2 → IsRising heap at pairs₀ slots₀ pairs slots → rank_at pairs at < rank_at pairs above → Rearranges heap pairs slots pairs' slots' → pairs' ≡ swap pairs above at → IsRising heap above pairs₀ slots₀ pairs' slots'
rises_on heap at above pairs₀ slots₀ pairs slots pairs' slots' some half so_far less moved swapped =
    let within = so_far.within in
    let as_many = moved.as_many in
    let ordered = raised (rank_at pairs) (rank_at pairs') (length pairs) above at (omega arith) (omega arith) within so_far.order less (ranks_exchanged above at pairs pairs' (omega arith) within swapped) in
    record {
      within = omega arith;
      moved = moved_on heap pairs₀ pairs pairs' slots₀ slots slots' so_far.moved moved;
      order = rw as_many ordered.0;
      under = rw as_many ordered.1;
    }

pub sinks_on : (heap at under : ℕ) (pairs₀ : List Pair) (slots₀ : List (Option Slot)) (pairs : List Pair) (slots : List (Option Slot)) (pairs' : List Pair) (slots' : List (Option Slot)) → at * 2 + 1 ≤ under → under ≤ at * 2 + 2 → under < length pairs → ((k : ℕ) → at * 2 + 1 ≤ k → k ≤ at * 2 + 2 → k < length pairs → rank_at pairs under ≤ rank_at pairs k) → IsSinking heap at pairs₀ slots₀ pairs slots → rank_at pairs under < rank_at pairs at → Rearranges heap pairs slots pairs' slots' → pairs' ≡ swap pairs at under → IsSinking heap under pairs₀ slots₀ pairs' slots'
sinks_on heap at under pairs₀ slots₀ pairs slots pairs' slots' from to within lesser so_far less moved swapped =
    let as_many = moved.as_many in
    let ordered = lowered (rank_at pairs) (rank_at pairs') (length pairs) at under from to within so_far.order lesser less (ranks_exchanged at under pairs pairs' so_far.within within swapped) in
    record {
      within = omega arith;
      moved = moved_on heap pairs₀ pairs pairs' slots₀ slots slots' so_far.moved moved;
      order = rw as_many ordered.0;
      above = ordered.1;
    }
