-- Submissions that wait in queues to be sent (ebMS 3.0 Core, section 3.4, on message partition channels).
use Rattle.std.specs.Prelude.{ℕ, List, [], ◌∷◌, Bool, not, ◌&&◌, ◌==◌, nat_lt, nat_le, if◌then◌else◌, Option, option_map}
use Rattle.std.specs.List.{filter, find}
use Rattle.as4_effects.specs.declared.queue.Queue.{Queue}
use Rattle.channels.specs.declared.waiting.Place.{Place}
use Rattle.channels.specs.declared.waiting.Waiting.{Waiting}
use Rattle.exchange_model.specs.Least.{first_least}
use Rattle.exchange_model.specs.Questions.{is_same_queue}

-- the waiting submissions, by number, and the number and the queue that room is reserved for
pub record Queues : Type 0 where
  pub waiting : List Waiting
  pub room : Option Place

-- with one more, before the first of a greater number
unfoldable pub inserted : Waiting → List Waiting → List Waiting
inserted w [] = w ∷ []
inserted w (x ∷ xs) = if nat_lt w.number x.number then w ∷ x ∷ xs else x ∷ inserted w xs

-- without the one of this number
unfoldable pub without : ℕ → List Waiting → List Waiting
without number waiting = filter (λ w. not (w.number == number)) waiting

-- the one of this number
abbrev pub waiting_at : ℕ → List Waiting → Option Waiting
waiting_at number waiting = find (λ w. w.number == number) waiting

-- it is in the queue, and due at this moment
abbrev pub is_due_in : Queue → ℕ → Waiting → Bool
is_due_in queue moment w = is_same_queue w.queue queue && nat_le w.due moment

-- of those in the queue that are due at this moment, the number of the first that is due; of several due at once, the
-- least number
unfoldable pub head_in : Queue → ℕ → List Waiting → Option ℕ
head_in queue moment waiting =
    option_map (λ w. w.number) (first_least (λ w. w.due) (filter (is_due_in queue moment) waiting))
