-- When pending submissions expire (AS4 Profile, section 3.2, on retries), kept in a heap.
use Rattle.std.specs.Prelude.{◌≡◌, ℕ, ◌+◌, ◌<◌, ◌==◌, if◌then◌else◌, List, Option, Some, None, length, slice_get}
use Rattle.due_heap.specs.Heaps.{Heaps, Place, standing_at}
use Rattle.exchange_model.specs.Questions.{due, is_pending}
use Rattle.exchange_model.specs.declared.sent.Sent.{Sent}

-- when it expires, if it is still pending: past all moments as long as it may be sent again
abbrev pub failing_at : Sent → ℕ
failing_at s = if s.tries == s.submission.retries + 1 then due s else 18446744073709551615

-- its place in the heap, if it has one
abbrev pub watched : Option Sent → Option Place
watched None = None
watched (Some s) = if is_pending s then Some (record { heap = 0; due = failing_at s }) else None

-- exactly the pending ones are in the heap, each with the moment at which it expires
pub record Watches (failing : Heaps) (sent : List Sent) : Type 0 where
  pub each : (number : ℕ) → standing_at number failing ≡ watched (slice_get sent number)
  pub heap : 0 < length sent → 0 < failing.count

-- room in the heap for one more of this number is reserved, if a submission may have it
abbrev pub HasWatchRoom : Heaps → ℕ → Type 0
HasWatchRoom failing number = number < 1048576 → (0 < failing.count) × (failing.room ≡ Some (record { heap = 0; number = number }))
