-- The representation of the heaps: lists of pairs, and a table with each number's place.
use Rattle.std.specs.Prelude.{ℕ, ◌≡◌, ◌≢◌, ◌<◌, ◌≤◌, List, Option, Some, length, option_map, slice_get, vec_len}
use Rattle.std.specs.Option.{option_and_then}
use Rattle.std.specs.Vec.{vec_capacity}
use Rattle.std.specs.declared.vec.Vec.{Vec}
use Rattle.std.specs.declared.alloc.Global.{Global}
use Rattle.due_heap.specs.declared.pair.Pair.{Pair}
use Rattle.due_heap.specs.declared.pair.Slot.{Slot}
use Rattle.due_heap.specs.declared.pair.Room.{Room}
use Rattle.due_heap.specs.Heaps.{Place}
use Rattle.due_heap.specs.Order.{rank_at, IsOrdered}

-- the table's entry of a number
abbrev pub slot_at : ℕ → List (Option Slot) → Option Slot
slot_at number slots = option_and_then (λ slot. slot) (slice_get slots number)

abbrev pub place_of : Slot → Place
place_of slot = record { heap = slot.heap; due = slot.due }

abbrev pub place_at : ℕ → List (Option Slot) → Option Place
place_at number slots = option_map place_of (slot_at number slots)

-- the table has each pair of a heap at its place, and the heap has each pair that the table places there
pub record Points (heap : ℕ) (pairs : List Pair) (slots : List (Option Slot)) : Type 0 where
  pub to : (i : ℕ) (pair : Pair) → slice_get pairs i ≡ Some pair → slot_at pair.number slots ≡ Some (record { heap = heap; at = i; due = pair.due })
  pub from : (number : ℕ) (slot : Slot) → slot_at number slots ≡ Some slot → slot.heap ≡ heap → slice_get pairs slot.at ≡ Some (record { due = slot.due; number = number })

-- the same except at one place, which a pair of this number will get
pub record PointsBut (at number heap : ℕ) (pairs : List Pair) (slots : List (Option Slot)) : Type 0 where
  pub to : (i : ℕ) (pair : Pair) → i ≢ at → slice_get pairs i ≡ Some pair → slot_at pair.number slots ≡ Some (record { heap = heap; at = i; due = pair.due })
  pub apart : (i : ℕ) (pair : Pair) → i ≢ at → slice_get pairs i ≡ Some pair → pair.number ≢ number
  pub from : (n : ℕ) (slot : Slot) → n ≢ number → slot_at n slots ≡ Some slot → slot.heap ≡ heap → slice_get pairs slot.at ≡ Some (record { due = slot.due; number = n })
  pub off : (n : ℕ) (slot : Slot) → n ≢ number → slot_at n slots ≡ Some slot → slot.heap ≡ heap → slot.at ≢ at
  pub own : (slot : Slot) → slot_at number slots ≡ Some slot → slot.heap ≡ heap

-- the table is unchanged for the pairs of other heaps
pub record SameElsewhere (heap : ℕ) (old new : List (Option Slot)) : Type 0 where
  pub length : length new ≡ length old
  pub stays : (n : ℕ) (slot : Slot) → slot.heap ≢ heap → slot_at n old ≡ Some slot → slot_at n new ≡ Some slot
  pub was : (n : ℕ) (slot : Slot) → slot.heap ≢ heap → slot_at n new ≡ Some slot → slot_at n old ≡ Some slot

-- the pairs of a heap in another order
pub record Rearranges (heap : ℕ) (pairs : List Pair) (slots : List (Option Slot)) (pairs' : List Pair) (slots' : List (Option Slot)) : Type 0 where
  pub points : Points heap pairs' slots'
  pub as_many : length pairs' ≡ length pairs
  pub places : (n : ℕ) → place_at n slots' ≡ place_at n slots
  pub elsewhere : SameElsewhere heap slots slots'

-- a number of a heap has this place, and every other number keeps its place
pub record Places (heap number : ℕ) (place : Option Place) (old new : List (Option Slot)) : Type 0 where
  pub here : place_at number new ≡ place
  pub others : (n : ℕ) → n ≢ number → place_at n new ≡ place_at n old
  pub elsewhere : SameElsewhere heap old new

-- a heap in its representation
pub record IsHeap (heap : ℕ) (pairs : List Pair) (slots : List (Option Slot)) : Type 0 where
  pub points : Points heap pairs slots
  pub order : IsOrdered (rank_at pairs) (length pairs)

-- all heaps in their representation
pub record AreHeaps (heaps : List (Vec Pair Global)) (slots : List (Option Slot)) : Type 0 where
  pub few : length slots ≤ 1048576
  pub known : (n : ℕ) (slot : Slot) → slot_at n slots ≡ Some slot → slot.heap < length heaps
  pub each : (h : ℕ) (v : Vec Pair Global) → slice_get heaps h ≡ Some v → IsHeap h v.items slots

-- room for one more pair of a number in a heap is reserved
pub record HasRoom (heaps : List (Vec Pair Global)) (slots : List (Option Slot)) (room : Room) : Type 0 where
  pub heap : room.heap < length heaps
  pub number : room.number < length slots
  pub spare : (v : Vec Pair Global) → slice_get heaps room.heap ≡ Some v → vec_len v < vec_capacity v
