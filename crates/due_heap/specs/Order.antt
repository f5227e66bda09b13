-- The order of a heap in a list: the children of the place p are the places 2p + 1 and 2p + 2.
use Rattle.std.specs.Prelude.{ℕ, ◌+◌, ◌*◌, ◌<◌, ◌≤◌, ◌≡◌, ◌≢◌, List, Some, slice_get, slice_index_or}
use Rattle.due_heap.specs.declared.pair.Pair.{Pair}

-- pairs by due moment, and by number where both are due at once; for numbers below 1,048,576
abbrev pub rank : Pair → ℕ
rank pair = pair.due * 1048576 + pair.number

-- the rank of the pair at a place
abbrev pub rank_at : List Pair → ℕ → ℕ
rank_at pairs i = rank (slice_index_or pairs i (record { due = 0; number = 0 }))

-- none of the first n places is less than its parent
abbrev pub IsOrdered : (ℕ → ℕ) → ℕ → Type 0
IsOrdered f n = (p k : ℕ) → p * 2 + 1 ≤ k → k ≤ p * 2 + 2 → k < n → f p ≤ f k

-- the same except at one place; the children of that place are not less than its parent
pub record IsOrderedBut (at : ℕ) (f : ℕ → ℕ) (n : ℕ) : Type 0 where
  pub elsewhere : (p k : ℕ) → p * 2 + 1 ≤ k → k ≤ p * 2 + 2 → k < n → p ≢ at → k ≢ at → f p ≤ f k
  pub past : (p k : ℕ) → p * 2 + 1 ≤ at → at ≤ p * 2 + 2 → at * 2 + 1 ≤ k → k ≤ at * 2 + 2 → k < n → f p ≤ f k

-- the children of this place are not less
abbrev pub IsUpToUnder : ℕ → (ℕ → ℕ) → ℕ → Type 0
IsUpToUnder at f n = (k : ℕ) → at * 2 + 1 ≤ k → k ≤ at * 2 + 2 → k < n → f at ≤ f k

-- the parent of this place is not greater
abbrev pub IsFromAbove : ℕ → (ℕ → ℕ) → Type 0
IsFromAbove at f = (p : ℕ) → p * 2 + 1 ≤ at → at ≤ p * 2 + 2 → f p ≤ f at

-- a pair is at some place
abbrev pub IsIn : List Pair → ℕ × ℕ → Type 0
IsIn pairs x = (i : ℕ) × (slice_get pairs i ≡ Some (record { due = x.0; number = x.1 }))

-- a pair is at some place, and has another number than this
abbrev pub IsInBut : List Pair → ℕ → ℕ × ℕ → Type 0
IsInBut pairs number x = IsIn pairs x × (x.1 ≢ number)

-- no number is at two places
abbrev pub AreOnce : List Pair → Type 0
AreOnce pairs = (i j : ℕ) (pair other : Pair) → slice_get pairs i ≡ Some pair → slice_get pairs j ≡ Some other → pair.number ≡ other.number → i ≡ j
