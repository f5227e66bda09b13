-- A round without loss, in three acts: a message is sent, is received, and its receipt returns. Each statement is about
-- any such act that may happen next. It requires of the act's reply only that the journal isn't full; where the journal
-- has room for any effect, it requires nothing.
use Rattle.std.specs.Prelude.{◌≡◌, ℕ, ◌≤◌, ◌⊎◌, List, [], ◌∷◌, false, if◌then◌else◌, Option, Some, IsSome, slice_get}
use Rattle.std.specs.List.{Contains}
use Rattle.std.specs.Option.{option_and_then}
use Rattle.as4_effects.specs.declared.effect.Effect.TheVariants as effect
use Rattle.as4_effects.specs.declared.queue.Queue.TheVariants as queue
use Rattle.mode_values.specs.ModeMatch.{mode_of, channel_mode}
use Rattle.as4_values.specs.declared.header.UserHeader.{UserHeader}
use Rattle.as4_values.specs.declared.message.Message.{Message}
use Rattle.as4_values.specs.declared.message.Message.TheVariants as message
use Rattle.as4_values.specs.declared.message.Pair.{Pair}
use Rattle.mode_values.specs.declared.mode.Mode.{Mode}
use Rattle.as4_values.specs.declared.signal.Signal.{Signal}
use Rattle.as4_values.specs.declared.signal_body.SignalBody.TheVariants as body
use Rattle.exchange_model.specs.Apply.{after}
use Rattle.exchange_model.specs.DeliveredOnce.{CameFrom}
use Rattle.exchange_model.specs.End.{End}
use Rattle.exchange_model.specs.Questions.{head_of, is_pending, sent_of}
use Rattle.exchange_model.specs.Room.{HasRoomForOne}
use Rattle.exchange_model.specs.Table.{IsOther, message_of}
use Rattle.exchange_model.specs.World.{Act, Does, Site, World, MayHappen, across, speaker_at, sends, world_after}
use Rattle.exchange_model.specs.declared.inbox_entry.InboxEntry.{InboxEntry}
use Rattle.exchange_model.specs.declared.reply.Reply.{Reply}
use Rattle.exchange_model.specs.declared.reply.Reply.TheVariants as reply
use Rattle.as4_effects.specs.declared.mark.Mark.TheVariants.{Receipted}
use Rattle.exchange_model.specs.declared.sent.Sent.{Sent}
use Rattle.exchange_model.specs.declared.what.What.TheVariants as what

-- the reply says that the journal is full
abbrev pub IsFull : Reply → Type 0
IsFull (reply.Full size need) = Unit {0}
IsFull other = ⊥

-- the act is at this site, may happen next, and has room in the journal
pub record IsNext (site : Site) (world : World) (act : Act) : Type 0 where
  pub here : act.site ≡ site
  pub may : MayHappen (Does act ∷ []) world
  pub roomy : (¬ IsFull act.outcome.reply) ⊎ HasRoomForOne (speaker_at site world).end

-- the world after an act
abbrev pub behind_act : Act → World → World
behind_act act world = world_after (Does act ∷ []) world

-- the act sends exactly this message, and unless its reply is lost, the other endpoint may receive the message
pub record SendsOne (site : Site) (world : World) (act : Act) (m : Message) : Type 0 where
  pub one : sends act.outcome.reply ≡ m ∷ []
  pub heard : act.lost ≡ false → Contains (speaker_at site (behind_act act world)).said m

-- a pull request asks an endpoint for the head of a channel of these modes
abbrev pub IsPulled : Sent → List Mode → Signal → End → Type 0
IsPulled s modes signal end =
    (mpc : List ℕ) × (signal.body ≡ body.Pull mpc) × IsSome (channel_mode modes mpc)
    × (head_of (queue.Channel mpc) end ≡ Some s)

-- a receipt for a submission of the endpoint, without a copy of another header
pub record IsReceiptAt (s : Sent) (signal : Signal) (end : End) : Type 0 where
  pub copy : Option UserHeader
  pub receipt : signal.body ≡ body.Receipt copy
  pub names : option_and_then (λ ref. sent_of ref end.sent) signal.ref_to ≡ Some s
  pub own : ¬ IsOther copy s.submission.header

-- the endpoint after the receipt for a submission
abbrev pub behind_receipt : Sent → End → End
behind_receipt s end = if is_pending s then after (effect.Receipted s.submission.number) end else end

-- a pair asks an endpoint for the head of a channel, as it is after the pair's receipt
abbrev pub IsPulledBehind : Sent → List Mode → Pair → End → Type 0
IsPulledBehind s modes pair end =
    (t : Sent) × IsReceiptAt t pair.receipt end × IsPulled s modes pair.pull (behind_receipt t end)

-- the endpoint is asked for the head of a queue: of the push queue, or of a channel of its modes by a pull request,
-- alone or in a pair
abbrev pub IsAskedFor : Sent → Act → End → Type 0
IsAskedFor s act end =
    ((act.event.what ≡ what.Take) × (head_of queue.Push end ≡ Some s))
    ⊎ (((signal : Signal) × (act.event.what ≡ what.Came (message.Signal signal)) × IsPulled s act.modes signal end)
    ⊎ ((pair : Pair) × (act.event.what ≡ what.Came (message.Pair pair)) × IsPulledBehind s act.modes pair end))

-- the message of the submission is in an inbox, with its payloads unless it is confirmed
abbrev pub StandsIn : Sent → End → Type 0
StandsIn s end = (n : ℕ) × (entry : InboxEntry) × (slice_get end.inbox n ≡ Some entry) × CameFrom s entry (end.confirmed ≤ n)

-- the sender has the receipt, and the message is in the receiver's inbox
pub record IsSettled (site : Site) (s : Sent) (world : World) : Type 0 where
  pub receipted : (t : Sent) × (sent_of s.submission.header.id (speaker_at site world).end.sent ≡ Some t) × (t.mark ≡ Receipted)
  pub delivered : StandsIn s (speaker_at (across site) world).end

-- the third act: any act that returns the answer settles both endpoints
abbrev pub ThirdSettles : Site → Sent → Message → World → Type 0
ThirdSettles site s answer world =
    (back : Act) → IsNext site world back → back.event.what ≡ what.Came answer → IsSettled site s (behind_act back world)

-- an endpoint with a mode for the message receives it, for the first time or again
pub record IsBroughtOver (s : Sent) (act : Act) : Type 0 where
  pub message : act.event.what ≡ what.Came (message_of s.submission)
  pub mode : IsSome (mode_of act.modes s.submission.header)

-- the second act: any act that receives the message answers with one message, and then the third holds
abbrev pub SecondSettles : Site → Sent → World → Type 0
SecondSettles site s world =
    (over : Act) → IsNext (across site) world over → IsBroughtOver s over
    → (answer : Message) × SendsOne (across site) world over answer × ThirdSettles site s answer (behind_act over world)

-- the first act: any act that asks for the head of a queue sends its message, and then the second holds
abbrev pub ARoundSettles : Site → Sent → World → Type 0
ARoundSettles site s world =
    (out : Act) → IsNext site world out → IsAskedFor s out (speaker_at site world).end
    → SendsOne site world out (message_of s.submission) × SecondSettles site s (behind_act out world)
