-- What the exchange guarantees to two businesses (AS4 Profile, section 3.2, reception awareness): each message is
-- delivered once.
use Rattle.std.specs.Prelude.{◌≡◌, ◌≢◌, ℕ, ◌+◌, ◌≤◌, List, Some, map, slice_get}
use Rattle.std.specs.List.{AllPairs, Contains, count_by}
use Rattle.std.specs.Str.{bytes_eq}
use Rattle.exchange_model.specs.End.{End}
use Rattle.exchange_model.specs.HandingOut.{times_handed_out}
use Rattle.exchange_model.specs.Questions.{sent_of}
use Rattle.exchange_model.specs.World.{Act, Happening, World, Left, Right, MayHappen, acts_at, new_world, world_after}
use Rattle.exchange_model.specs.declared.inbox_entry.InboxEntry.{InboxEntry}
use Rattle.as4_effects.specs.declared.mark.Mark.TheVariants.{Receipted, Failed}
use Rattle.exchange_model.specs.declared.sent.Sent.{Sent}

-- an entry of the receiver's inbox, and the submission that it came from: its payloads are the submitted ones until
-- the entry is confirmed
pub record CameFrom (s : Sent) (entry : InboxEntry) (is_kept : Type 0) : Type 0 where
  pub header : entry.header ≡ s.submission.header
  pub payloads : is_kept → entry.payloads ≡ s.submission.payloads

-- from one endpoint to the other, after these acts of the sender
pub record DeliversOnce (acts : List Act) (sender receiver : End) : Type 0 where
  -- no two submissions have the same identifier
  pub told_apart : AllPairs (λ a b. a ≢ b) (map (λ (s : Sent). s.submission.header.id) sender.sent)
  -- the inbox has each identifier at most once
  pub at_most_once : AllPairs (λ a b. a ≢ b) (map (λ (entry : InboxEntry). entry.header.id) receiver.inbox)
  -- each entry is the submission of its identifier, with its payloads until it is confirmed
  pub submitted : (n : ℕ) (entry : InboxEntry) → slice_get receiver.inbox n ≡ Some entry
      → (s : Sent) × (sent_of entry.header.id sender.sent ≡ Some s) × CameFrom s entry (receiver.confirmed ≤ n)
  -- a message that the sender holds a receipt for is in the inbox exactly once
  pub exactly_once : (s : Sent) → Contains sender.sent s → s.mark ≡ Receipted
      → count_by (λ (entry : InboxEntry). bytes_eq entry.header.id s.submission.header.id) receiver.inbox ≡ 1
  -- an expired message was sent, and sent again as often as its mode says
  pub given_up : (s : Sent) → Contains sender.sent s → s.mark ≡ Failed
      → times_handed_out s.submission.header.id acts ≡ s.submission.retries + 1

-- in both directions
pub record BothDeliverOnce (all : List Happening) (world : World) : Type 0 where
  pub to_right : DeliversOnce (acts_at Left all) world.left.end world.right.end
  pub to_left : DeliversOnce (acts_at Right all) world.right.end world.left.end

-- a sequence that may happen from the start led to this world, and each message was delivered once
pub record HasDeliveredOnce (world : World) : Type 0 where
  pub all : List Happening
  pub may : MayHappen all new_world
  pub leads : world_after all new_world ≡ world
  pub once : BothDeliverOnce all world
