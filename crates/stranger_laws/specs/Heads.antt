-- What an endpoint sends where it is asked for the head of a queue (ebMS 3.0 Core, sections 2.2 and 3.4).
use Rattle.std.specs.Prelude.{◌≡◌, List, [], ◌∷◌, Some, None, IsSome}
use Rattle.std.specs.List.{Contains}
use Rattle.as4_effects.specs.declared.queue.Queue.{Queue}
use Rattle.as4_effects.specs.declared.queue.Queue.TheVariants as queue
use Rattle.as4_values.specs.declared.header.UserHeader.{UserHeader}
use Rattle.as4_values.specs.declared.message.Message.TheVariants as message
use Rattle.as4_values.specs.declared.payload.Payload.{Payload}
use Rattle.as4_values.specs.declared.signal.Signal.{Signal}
use Rattle.as4_values.specs.declared.signal_body.SignalBody.TheVariants as body
use Rattle.exchange_model.specs.End.{End}
use Rattle.exchange_model.specs.LosslessRound.{IsFull}
use Rattle.exchange_model.specs.Questions.{head_of}
use Rattle.exchange_model.specs.Room.{HasRoomForOne}
use Rattle.exchange_model.specs.Table.{message_of}
use Rattle.exchange_model.specs.World.{sends}
use Rattle.exchange_model.specs.declared.reply.Reply.{Reply}
use Rattle.exchange_model.specs.declared.sent.Sent.{Sent}
use Rattle.exchange_model.specs.declared.what.What.{What}
use Rattle.exchange_model.specs.declared.what.What.TheVariants.{Take, Came}
use Rattle.mode_values.specs.ModeMatch.{channel_mode}
use Rattle.mode_values.specs.declared.mode.Mode.{Mode}

-- the event asks for the head of the queue: of the push queue, or by a pull request of a channel that a mode names
abbrev pub AsksForHead : Queue → List Mode → What → Type 0
AsksForHead queue.Push modes w = w ≡ Take
AsksForHead (queue.Channel mpc) modes w =
    (signal : Signal) × (w ≡ Came (message.Signal signal)) × (signal.body ≡ body.Pull mpc) × IsSome (channel_mode modes mpc)

-- the reply to it
pub record AnswersWithHead (q : Queue) (end : End) (r : Reply) : Type 0 where
  -- where there is a head and the journal isn't full, its message is sent, and nothing else
  pub sent : (s : Sent) → head_of q end ≡ Some s → ¬ IsFull r → sends r ≡ message_of s.submission ∷ []
  -- where there is none, no user message is sent
  pub none : head_of q end ≡ None → (header : UserHeader) (payloads : List Payload)
      → ¬ Contains (sends r) (message.User header payloads)
  -- with room for any effect the journal isn't full
  pub roomy : HasRoomForOne end → ¬ IsFull r
