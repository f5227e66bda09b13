-- Heaps of pairs of a due moment and a number; a number is in at most one of them.
use Rattle.std.specs.Prelude.{ℕ, ◌≡◌, ◌≢◌, ◌≤◌, List, Option, Some, None, slice_get}
use Rattle.std.specs.Option.{option_and_then}
use Rattle.due_heap.specs.declared.pair.Room.{Room}

-- the heap of a number, and when the number is due
pub record Place : Type 0 where
  pub heap : ℕ
  pub due : ℕ

-- the same heap, and another due moment
abbrev pub with_due : ℕ → Place → Place
with_due due place = record { heap = place.heap; due = due }

-- the number of heaps, the place of each number that is in one, and the reservation
pub record Heaps : Type 0 where
  pub count : ℕ
  pub places : List (Option Place)
  pub room : Option Room

-- the place of this number, where it is in a heap
unfoldable pub standing_at : ℕ → Heaps → Option Place
standing_at number heaps = option_and_then (λ place. place) (slice_get heaps.places number)

-- this number has this place, and every other one is unchanged
pub record Sets (number : ℕ) (place : Option Place) (old new : Heaps) : Type 0 where
  pub count : new.count ≡ old.count
  pub here : standing_at number new ≡ place
  pub others : (n : ℕ) → n ≢ number → standing_at n new ≡ standing_at n old

-- every number is unchanged
abbrev pub StandAs : Heaps → Heaps → Type 0
StandAs old new = (n : ℕ) → standing_at n new ≡ standing_at n old

-- the heap has this pair of a due moment and a number
abbrev pub HasPair : Heaps → ℕ → ℕ × ℕ → Type 0
HasPair heaps heap pair = standing_at pair.1 heaps ≡ Some (record { heap = heap; due = pair.0 })

-- the heap has this pair, and the pair has another number than this
abbrev pub HasPairBut : Heaps → ℕ → ℕ → ℕ × ℕ → Type 0
HasPairBut heaps heap number pair = HasPair heaps heap pair × (pair.1 ≢ number)

-- it is due no later than the other; where both are due at once, its number is no greater
pub record IsUpTo (pair other : ℕ × ℕ) : Type 0 where
  pub due : pair.0 ≤ other.0
  pub number : pair.0 ≡ other.0 → pair.1 ≤ other.1

-- it is one of them, and up to each of them
pub record IsLeast (IsAmong : ℕ × ℕ → Type 0) (pair : ℕ × ℕ) : Type 0 where
  pub among : IsAmong pair
  pub least : (other : ℕ × ℕ) → IsAmong other → IsUpTo pair other

-- the least of them; None only where there are none
abbrev pub IsLeastOf : (ℕ × ℕ → Type 0) → Option (ℕ × ℕ) → Type 0
IsLeastOf IsAmong None = (pair : ℕ × ℕ) → ¬ (IsAmong pair)
IsLeastOf IsAmong (Some pair) = IsLeast IsAmong pair
