-- One endpoint alone, whatever it receives. Its partner may also forge messages.
use Rattle.std.specs.Prelude.{◌≡◌, ◌≢◌, ℕ, ◌+◌, ◌<◌, ◌≤◌, List, [], ◌∷◌, Bool, true, false, Some, length, map, slice_get}
use Rattle.std.specs.List.{AllPairs, Contains, count_by}
use Rattle.as4_effects.specs.declared.effect.Effect.{Effect}
use Rattle.as4_values.specs.declared.header.UserHeader.{UserHeader}
use Rattle.as4_values.specs.declared.message.Message.TheVariants as message
use Rattle.as4_values.specs.declared.payload.Payload.{Payload}
use Rattle.exchange_model.specs.Apply.{applied, record_len}
use Rattle.exchange_model.specs.Causes.{HandsIn, BringsReceiptOf, BringsFailureOf, TakesOver}
use Rattle.exchange_model.specs.End.{End}
use Rattle.exchange_model.specs.Fold.{IsFoldedSize, resized}
use Rattle.exchange_model.specs.HandingOut.{times_handed_out}
use Rattle.exchange_model.specs.LosslessRound.{IsFull}
use Rattle.exchange_model.specs.Questions.{is_spent}
use Rattle.exchange_model.specs.Table.{Step, message_of}
use Rattle.exchange_model.specs.World.{Act, Happening, Does, Folds, acts_of, sends}
use Rattle.exchange_model.specs.declared.inbox_entry.InboxEntry.{InboxEntry}
use Rattle.exchange_model.specs.declared.reply.Reply.{Reply}
use Rattle.exchange_model.specs.declared.reply.Reply.TheVariants as reply
use Rattle.as4_effects.specs.declared.mark.Mark.TheVariants.{Receipted, Failed, Refused}
use Rattle.exchange_model.specs.declared.sent.Sent.{Sent}
use Rattle.exchange_model.specs.declared.what.What.TheVariants.{Tick}

-- in this order, each may happen at the endpoint that the earlier ones lead to
abbrev pub MayHappenTo : List Happening → End → Type 0
MayHappenTo [] end = Unit {0}
MayHappenTo (Does act ∷ later) end =
    Step act.modes end act.event act.outcome × MayHappenTo later (applied act.outcome.effects end)
MayHappenTo (Folds site size ∷ later) end = IsFoldedSize end size × MayHappenTo later (resized size end)

abbrev pub end_after : List Happening → End → End
end_after [] end = end
end_after (Does act ∷ later) end = end_after later (applied act.outcome.effects end)
end_after (Folds site size ∷ later) end = end_after later (resized size end)

-- the reply to the producer is that the message is submitted
abbrev pub is_submitted : Reply → Bool
is_submitted (reply.Submitted number id) = true
is_submitted other = false

-- the submissions of an endpoint
pub record IsOutboxSafe (acts : List Act) (end : End) : Type 0 where
  -- no two submissions have the same identifier
  pub told_apart : AllPairs (λ a b. a ≢ b) (map (λ (s : Sent). s.submission.header.id) end.sent)
  -- each was submitted, each accepted one is there, and there are as many as were accepted
  pub handed_in : (s : Sent) → Contains end.sent s → (act : Act) × Contains acts act × HandsIn s.submission act
  pub taken_in : (act : Act) (number : ℕ) (id : List ℕ) → Contains acts act → act.outcome.reply ≡ reply.Submitted number id
      → (s : Sent) × (slice_get end.sent number ≡ Some s) × HandsIn s.submission act
  pub counted : length end.sent ≡ count_by (λ (act : Act). is_submitted act.outcome.reply) acts
  -- each user message that was sent is that of a submission
  pub own : (act : Act) (header : UserHeader) (payloads : List Payload) → Contains acts act
      → Contains (sends act.outcome.reply) (message.User header payloads)
      → (s : Sent) × Contains end.sent s × (message.User header payloads ≡ message_of s.submission)
  -- the tries of a submission are the acts that sent it, at most one more than its retries
  pub tries : (s : Sent) → Contains end.sent s → times_handed_out s.submission.header.id acts ≡ s.tries
  pub limited : (s : Sent) → Contains end.sent s → s.tries ≤ s.submission.retries + 1

-- how a submission came to its state
pub record IsSettledRightly (acts : List Act) (end : End) : Type 0 where
  -- it is receipted only if a receipt for it was received and settled it
  pub receipted : (s : Sent) → Contains end.sent s → s.mark ≡ Receipted → (act : Act) × Contains acts act × BringsReceiptOf s act
  -- it is refused only if a failure about it was received
  pub refused : (s : Sent) (code : List ℕ) → Contains end.sent s → s.mark ≡ Refused code
      → (act : Act) × Contains acts act × BringsFailureOf s code act
  -- it is expired only if it was sent as often as its mode says
  pub given_up : (s : Sent) → Contains end.sent s → s.mark ≡ Failed
      → times_handed_out s.submission.header.id acts ≡ s.submission.retries + 1
  -- and it is expired as soon as its last try is overdue by the clock
  pub none_spent : (s : Sent) → Contains end.sent s → is_spent end.moment s ≡ false

-- the messages that an endpoint received
pub record IsInboxSafe (acts : List Act) (end : End) : Type 0 where
  -- the inbox has each identifier at most once
  pub at_most_once : AllPairs (λ a b. a ≢ b) (map (λ (entry : InboxEntry). entry.header.id) end.inbox)
  -- each message that counts as confirmed was received, and an act confirmed it
  pub came : end.confirmed ≤ length end.inbox
  pub taken_over : (n : ℕ) → n < end.confirmed → (act : Act) × Contains acts act × TakesOver n act

-- the number of bytes of an act's record in the journal; without effects there is no record
abbrev pub written : List Effect → ℕ
written [] = 0
written (e ∷ effects) = record_len (e ∷ effects)

-- the size of a journal of `size` bytes after these: an act adds its record, and a compaction sets the size
abbrev pub size_after : List Happening → ℕ → ℕ
size_after [] size = size
size_after (Does act ∷ later) size = size_after later (size + written act.outcome.effects)
size_after (Folds site left ∷ later) size = size_after later left

-- what holds at an endpoint whatever its partner sends
pub record IsSafe (all : List Happening) (end : End) : Type 0 where
  pub outbox : IsOutboxSafe (acts_of all) end
  pub settled : IsSettledRightly (acts_of all) end
  pub inbox : IsInboxSafe (acts_of all) end
  -- the clock is at least at the stamp of each tick
  pub clock : (act : Act) → Contains (acts_of all) act → act.event.what ≡ Tick → ¬ IsFull act.outcome.reply → act.event.stamp ≤ end.moment
  -- the journal's size: its first nine bytes and the acts' records; after a compaction, what that left and the records
  -- since then
  pub size : end.size ≡ size_after all 9
