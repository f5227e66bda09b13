-- The state of an endpoint's tables, and the room that they have.
use Rattle.std.specs.Prelude.{◌≡◌, ℕ, List, [], Option, Some, None, IsSome}
use Rattle.as4_effects.specs.declared.effect.Effect.{Effect}
use Rattle.as4_effects.specs.declared.effect.Effect.TheVariants as effect
use Rattle.as4_effects.specs.declared.submission.Submission.{Submission}
use Rattle.as4_effects.specs.declared.queue.Queue.{Queue}
use Rattle.as4_effects.specs.declared.queue.Queue.TheVariants as queue
use Rattle.channels.specs.declared.waiting.Place.{Place}
use Rattle.exchange_model.specs.End.{End, empty_end}
use Rattle.exchange_model.specs.Questions.{queue_of, sent_at}
use Rattle.exchange_model.specs.declared.sent.Sent.{Sent}
use Rattle.inbox.specs.Spots.{Spot}

-- the identifier that the next submission may have, the queue and number that may wait, and the identifier that the
-- next delivery may have
pub record Rooms : Type 0 where
  pub outbox : Option (List ℕ)
  pub channels : Option Place
  pub inbox : Option (List ℕ)

-- an endpoint, where the payloads of each received message are, and the room of its tables
pub record TablesState : Type 0 where
  pub end : End
  pub places : List Spot
  pub rooms : Rooms

abbrev pub new_tables : TablesState
new_tables = record { end = empty_end; places = []; rooms = record { outbox = None; channels = None; inbox = None } }

abbrev pub queue_of_sent : Option Sent → Queue
queue_of_sent None = queue.Push
queue_of_sent (Some s) = queue_of s.submission.route

-- the queue of the submission of this number
abbrev pub queue_at : ℕ → List Sent → Queue
queue_at number sent = queue_of_sent (sent_at number sent)

-- the queue in which an effect moves a submission; the push queue for an effect that moves none
unfoldable pub queue_for : List Sent → Effect → Queue
queue_for sent (effect.Submitted submission) = queue_of submission.route
queue_for sent (effect.Ticked tick) = queue.Push
queue_for sent (effect.Tried number) = queue_at number sent
queue_for sent (effect.Delivered delivery) = queue.Push
queue_for sent (effect.Receipted number) = queue_at number sent
queue_for sent (effect.Refused number code) = queue_at number sent
queue_for sent (effect.Confirmed upto) = queue.Push
queue_for sent (effect.Carried carried) = queue_of carried.submission.route
queue_for sent (effect.Kept kept) = queue.Push

-- the tables have room for a submission
abbrev pub HasRoomFor : Rooms → Submission → Type 0
HasRoomFor rooms submission =
    (rooms.outbox ≡ Some submission.header.id)
    × (rooms.channels ≡ Some (record { queue = queue_of submission.route; number = submission.number }))

-- the tables have room for the effect, at an endpoint with these submissions
unfoldable pub HasRoom : Rooms → List Sent → Effect → Type 0
HasRoom rooms sent (effect.Submitted submission) = HasRoomFor rooms submission
HasRoom rooms sent (effect.Ticked tick) = Unit {0}
HasRoom rooms sent (effect.Tried number) = rooms.channels ≡ Some (record { queue = queue_at number sent; number = number })
HasRoom rooms sent (effect.Delivered delivery) = rooms.inbox ≡ Some delivery.header.id
HasRoom rooms sent (effect.Receipted number) = Unit {0}
HasRoom rooms sent (effect.Refused number code) = Unit {0}
HasRoom rooms sent (effect.Confirmed upto) = Unit {0}
HasRoom rooms sent (effect.Carried carried) = HasRoomFor rooms carried.submission
HasRoom rooms sent (effect.Kept kept) = rooms.inbox ≡ Some kept.header.id

-- the submission that the effect sends again exists
unfoldable pub IsThere : List Sent → Effect → Type 0
IsThere sent (effect.Tried number) = IsSome (sent_at number sent)
IsThere sent other = Unit {0}

-- an effect that takes no room
unfoldable pub TakesNoRoom : Effect → Type 0
TakesNoRoom (effect.Submitted submission) = ⊥
TakesNoRoom (effect.Tried number) = ⊥
TakesNoRoom (effect.Delivered delivery) = ⊥
TakesNoRoom (effect.Carried carried) = ⊥
TakesNoRoom (effect.Kept kept) = ⊥
TakesNoRoom other = Unit {0}
