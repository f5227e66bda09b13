-- The representation of the queues: the names of the channels, and a heap for each queue.
use Rattle.std.specs.Prelude.{ℕ, zero, suc, ◌≡◌, ◌+◌, ◌-◌, ◌<◌, ◌≤◌, List, [], ◌∷◌, ◌++◌, Option, Some, None, length, option_map, option_to_list, slice_get, IfSome, nat_le, if◌then◌else◌}
use Rattle.as4_effects.specs.declared.queue.Queue.{Queue}
use Rattle.as4_effects.specs.declared.queue.Queue.TheVariants as queue
use Rattle.channels.specs.declared.waiting.Place.{Place}
use Rattle.channels.specs.declared.waiting.Waiting.{Waiting}
use Rattle.due_heap.specs.Heaps.{Heaps, standing_at, StandAs}
use Rattle.due_heap.specs.Heaps as due_heap
use Rattle.due_heap.specs.declared.pair.Room.{Room}

-- the queue of a heap: first the push queue, then the channels in the order of their names
abbrev pub queue_at : List (List ℕ) → ℕ → Option Queue
queue_at names zero = Some queue.Push
queue_at names (suc at) = option_map queue.Channel (slice_get names at)

-- the waiting submission of this number
abbrev pub waiting_of : List (List ℕ) → ℕ → Option due_heap.Place → Option Waiting
waiting_of names number None = None
waiting_of names number (Some place) =
    option_map (λ q. record { queue = q; due = place.due; number = number }) (queue_at names place.heap)

-- the waiting submissions, from this number on
abbrev pub waiting_from : List (List ℕ) → ℕ → List (Option due_heap.Place) → List Waiting
waiting_from names number [] = []
waiting_from names number (place ∷ places) =
    option_to_list (waiting_of names number place) ++ waiting_from names (number + 1) places

-- the waiting submissions, by number
unfoldable pub waiting_in : List (List ℕ) → Heaps → List Waiting
waiting_in names heaps = waiting_from names 0 heaps.places

-- the number and the queue that room is reserved for
abbrev pub room_in : List (List ℕ) → Option Room → Option Place
room_in names None = None
room_in names (Some room) =
    option_map (λ q. record { queue = q; number = room.number }) (queue_at names room.heap)

-- no name is at two places
abbrev pub AreDistinct : List (List ℕ) → Type 0
AreDistinct names = (i j : ℕ) (name : List ℕ) → slice_get names i ≡ Some name → slice_get names j ≡ Some name → i ≡ j

-- the names keep their places, and others may have been added
pub record KeepsNames (old new : List (List ℕ)) : Type 0 where
  pub as_many : length old ≤ length new
  pub same : (heap : ℕ) → heap ≤ length old → queue_at new heap ≡ queue_at old heap
  pub distinct : AreDistinct old → AreDistinct new

-- the numbers are unchanged, and heaps may have been added
pub record KeepsHeaps (old new : Heaps) : Type 0 where
  pub as_many : old.count ≤ new.count
  pub same : StandAs old new
  pub room : new.room ≡ old.room

-- each channel has one name and a heap; each number in a heap, and each reservation, is of a queue
pub record IsKept (names : List (List ℕ)) (heaps : Heaps) : Type 0 where
  pub distinct : AreDistinct names
  pub enough : length names ≤ heaps.count - 1
  pub there : (number : ℕ) (place : due_heap.Place) → standing_at number heaps ≡ Some place → place.heap < heaps.count
  pub known : (number : ℕ) (place : due_heap.Place) → standing_at number heaps ≡ Some place → place.heap ≤ length names
  pub room : IfSome heaps.room (λ room. room.heap < heaps.count)

-- the number of the first pair, where it is due at this moment
abbrev pub number_if_due : ℕ → Option (ℕ × ℕ) → Option ℕ
number_if_due moment None = None
number_if_due moment (Some first) = if nat_le first.0 moment then Some first.1 else None
