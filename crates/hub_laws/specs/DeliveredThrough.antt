-- What the chain guarantees to the first and the last business: each message is delivered through the hub once.
use Rattle.std.specs.Prelude.{◌≡◌, ℕ, ◌≤◌, List, ◌++◌, Some, map, slice_get}
use Rattle.std.specs.List.{Contains}
use Rattle.as4_values.specs.declared.payload.Payload.{Payload}
use Rattle.as4_effects.specs.declared.mark.Mark.TheVariants.{Receipted}
use Rattle.exchange_model.specs.End.{End}
use Rattle.exchange_model.specs.declared.inbox_entry.InboxEntry.{InboxEntry}
use Rattle.exchange_model.specs.declared.sent.Sent.{Sent}
use Rattle.hub_laws.specs.Chain.{Chain, MayAllPass, Passing, chain_after, new_chain}

-- load by load, the same media and contents
pub record HasLoadsOf (payloads submitted : List Payload) : Type 0 where
  pub medias : map (λ (payload : Payload). payload.media) payloads ≡ map (λ (payload : Payload). payload.media) submitted
  pub contents : map (λ (payload : Payload). payload.content) payloads ≡ map (λ (payload : Payload). payload.content) submitted

-- the message of a submission of the first endpoint is at place `n` of the hub's inbox
pub record IsAtHub (hub : End) (s : Sent) (n : ℕ) : Type 0 where
  pub received : InboxEntry
  pub there : slice_get hub.inbox n ≡ Some received
  pub identified : received.header.id ≡ s.submission.header.id

-- an entry of the last endpoint's inbox is the message of submission `n` of the hub, and entry `n` of the hub's inbox
-- is the message of this submission of the first endpoint
pub record CameThrough (hub : End) (s : Sent) (n : ℕ) (entry : InboxEntry) : Type 0 where
  pub received : IsAtHub hub s n
  pub relayed : Sent
  pub there : slice_get hub.sent n ≡ Some relayed
  pub identified : entry.header.id ≡ relayed.submission.header.id

-- it came from a submission of the first endpoint, with its conversation, and with its payloads until it is confirmed
pub record IsFromFirst (first hub : End) (entry : InboxEntry) (is_kept : Type 0) : Type 0 where
  pub source : Sent
  pub submitted : Contains first.sent source
  pub place : ℕ
  pub through : CameThrough hub source place entry
  pub talks : entry.header.conversation ≡ source.submission.header.conversation
  pub loads : is_kept → HasLoadsOf entry.payloads source.submission.payloads

-- one entry came from the submission, and no other entry did
pub record HasOneOf (hub last : End) (s : Sent) : Type 0 where
  pub place : ℕ
  pub entry : InboxEntry
  pub there : slice_get last.inbox place ≡ Some entry
  pub through : (n : ℕ) × CameThrough hub s n entry
  pub only : (k n : ℕ) (other : InboxEntry) → slice_get last.inbox k ≡ Some other → CameThrough hub s n other → k ≡ place

-- from the first endpoint through the hub to the last
pub record DeliversThrough (first hub last : End) : Type 0 where
  -- each entry of the last endpoint is a submission of the first
  pub submitted : (k : ℕ) (entry : InboxEntry) → slice_get last.inbox k ≡ Some entry
      → IsFromFirst first hub entry (last.confirmed ≤ k)
  -- no two entries came from one submission
  pub at_most_once : (s : Sent) (j k n m : ℕ) (a b : InboxEntry) → slice_get last.inbox j ≡ Some a → slice_get last.inbox k ≡ Some b
      → CameThrough hub s n a → CameThrough hub s m b → j ≡ k
  -- a message that the first endpoint holds a receipt for is in the hub's inbox
  pub arrived : (s : Sent) → Contains first.sent s → s.mark ≡ Receipted → (n : ℕ) × IsAtHub hub s n
  -- and where the hub holds the receipt for its own submission of that place, one entry of the last endpoint came from it
  pub exactly_once : (s relayed : Sent) (n : ℕ) → IsAtHub hub s n → slice_get hub.sent n ≡ Some relayed → relayed.mark ≡ Receipted
      → HasOneOf hub last s

abbrev pub IsDelivered : Chain → Type 0
IsDelivered chain = DeliversThrough chain.first.end chain.hub chain.last.end

-- the passings lead on, to a chain whose hub is this endpoint, and each message is delivered once there
pub record LeadsOn (hub : End) (all : List Passing) : Type 0 where
  pub more : List Passing
  pub may : MayAllPass (all ++ more) new_chain
  pub leads : (chain_after (all ++ more) new_chain).hub ≡ hub
  pub delivered : IsDelivered (chain_after (all ++ more) new_chain)

-- each chain whose hub is the old endpoint goes on to one whose hub is the new endpoint
abbrev pub GoesOn : End → End → Type 0
GoesOn old new = (all : List Passing) → MayAllPass all new_chain → (chain_after all new_chain).hub ≡ old → LeadsOn new all
