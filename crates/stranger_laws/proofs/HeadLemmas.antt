-- An endpoint that is asked for the head of a queue sends it.
use Rattle.std.proofs.Common.{◌≡◌, ℕ, inl, inr, List, [], false, Option, Some, None, sym, subst}
use Rattle.std.specs.Prelude.{IsSome, MatchOption}
use Rattle.mode_values.specs.ModeMatch.{channel_mode}
use Rattle.mode_values.specs.declared.mode.Mode.{Mode}
use Rattle.as4_effects.specs.declared.effect.Effect.{Effect}
use Rattle.as4_effects.specs.declared.queue.Queue.{Queue}
use Rattle.as4_effects.specs.declared.queue.Queue.TheVariants as queue
use Rattle.as4_values.specs.declared.header.UserHeader.{UserHeader}
use Rattle.as4_values.specs.declared.message.Message.TheVariants as message
use Rattle.as4_values.specs.declared.payload.Payload.{Payload}
use Rattle.as4_values.specs.declared.signal.Signal.{Signal}
use Rattle.as4_values.specs.declared.signal_body.SignalBody.{SignalBody}
use Rattle.as4_values.specs.declared.signal_body.SignalBody.TheVariants as body
use Rattle.exchange_model.specs.End.{End}
use Rattle.exchange_model.specs.LosslessRound.{IsAskedFor, IsFull}
use Rattle.exchange_model.specs.Questions.{head_of}
use Rattle.exchange_model.specs.Room.{HasRoomForOne}
use Rattle.exchange_model.specs.Table.{PullComes, RowOf, SignalComes, Step, Takes}
use Rattle.exchange_model.specs.World.{Act, Left, sends}
use Rattle.exchange_model.specs.declared.event.Event.{Event}
use Rattle.exchange_model.specs.declared.outcome.Outcome.{Outcome}
use Rattle.exchange_model.specs.declared.reply.Reply.{Reply}
use Rattle.exchange_model.specs.declared.reply.Reply.TheVariants as reply
use Rattle.exchange_model.specs.declared.sent.Sent.{Sent}
use Rattle.exchange_model.specs.declared.what.What.{What}
use Rattle.exchange_model.specs.declared.what.What.TheVariants as what
use Rattle.exchange_model.proofs.ListLemmas.{Has}
use Rattle.exchange_laws.proofs.EndSteps.{by_option}
use Rattle.exchange_laws.proofs.ListLemmas.{has_contained}
use Rattle.exchange_laws.proofs.RoomLemmas.{IsSmall, pull_small, takes_small}
use Rattle.exchange_laws.proofs.RoundLemmas.{at_any, can_write, out_sends, row_at}
use Rattle.stranger_laws.specs.Heads.{AnswersWithHead, AsksForHead}
use Rattle.stranger_laws.proofs.OneStep.{row_or_full}

-- a reply that sends no user message
abbrev pub SendsNoUser : Reply → Type 0
SendsNoUser r = (header : UserHeader) (payloads : List Payload) → Has (sends r) (message.User header payloads) → ⊥

-- by the value of the outcome
of_reply : (P : Reply → Type 0) (r : Reply) (effects : List Effect) (outcome : Outcome) → P r
    → outcome ≡ record { effects = effects; reply = r } → P outcome.reply
of_reply P r effects outcome p e = subst (λ (o : Outcome). P o.reply) (sym e) p

abbrev NotFull : Reply → Type 0
NotFull r = IsFull r → ⊥

at_none : {X : Type 0} (P : Type 0) (Q : X → Type 0) (o : Option X) → o ≡ None → MatchOption o P Q → P
at_none P Q o e m = subst (λ p. MatchOption p P Q) e m

not_user : (signal : Signal) → SendsNoUser (reply.Answer (message.Signal signal))
not_user signal header payloads (inl e) = absurd cc
not_user signal header payloads (inr none) = none

-- the rows without a head
takes_none : (end : End) (outcome : Outcome) → head_of queue.Push end ≡ None → Takes end outcome → SendsNoUser outcome.reply
unfolding Takes
takes_none end outcome none h =
    of_reply SendsNoUser reply.Nothing _ outcome (λ header payloads k. absurd k) (at_none _ _ (head_of queue.Push end) none h)

pull_none : (modes : List Mode) (end : End) (event : Event) (id mpc : List ℕ) (outcome : Outcome) → IsSome (channel_mode modes mpc)
    → head_of (queue.Channel mpc) end ≡ None → PullComes modes end event id mpc outcome → SendsNoUser outcome.reply
unfolding PullComes
pull_none modes end event id mpc outcome named none h =
    let errs = at_none _ _ (head_of (queue.Channel mpc) end) none (at_any _ _ (channel_mode modes mpc) named h).1 in
    of_reply SendsNoUser (reply.Answer (message.Signal errs.0)) _ outcome (not_user errs.0) errs.2

-- the rows don't say that the journal is full
takes_roomy : (end : End) (outcome : Outcome) → Takes end outcome → NotFull outcome.reply
unfolding Takes
takes_roomy end outcome h =
    by_option _ _ _ (head_of queue.Push end) h (of_reply NotFull reply.Nothing _ outcome (λ k. k)) (λ s _. of_reply NotFull (reply.Push _ _) _ outcome (λ k. k))

pull_roomy : (modes : List Mode) (end : End) (event : Event) (id mpc : List ℕ) (outcome : Outcome) → PullComes modes end event id mpc outcome
    → NotFull outcome.reply
unfolding PullComes
pull_roomy modes end event id mpc outcome h =
    by_option _ _ _ (channel_mode modes mpc) h (λ e. of_reply NotFull (reply.Answer _) _ outcome (λ k. k) e.2) (λ mode _ k.
    by_option _ _ _ (head_of (queue.Channel mpc) end) k (λ e. of_reply NotFull (reply.Answer _) _ outcome (λ k. k) e.2)
    (λ s _. of_reply NotFull (reply.Answer _) _ outcome (λ k. k)))

-- the row of a pull request
pull_row : (modes : List Mode) (end : End) (event : Event) (signal : Signal) (mpc : List ℕ) (row : Outcome) → signal.body ≡ body.Pull mpc
    → RowOf modes end event (what.Came (message.Signal signal)) row → PullComes modes end event signal.id mpc row
pull_row modes end event signal mpc row pull h =
    subst (λ (b : SignalBody). SignalComes modes end event signal.id signal.ref_to b row) pull h

heads_none : (q : Queue) (modes : List Mode) (end : End) (event : Event) (outcome : Outcome) → Step modes end event outcome
    → AsksForHead q modes event.what → head_of q end ≡ None → SendsNoUser outcome.reply
heads_none queue.Push modes end event outcome step asks none = elim (row_or_full modes end event outcome what.Take step asks) [
  | inl row ↦ takes_none end outcome none row
  | inr full ↦ of_reply SendsNoUser (reply.Full end.size full.0) [] outcome (λ header payloads k. absurd k) full.1
]
heads_none (queue.Channel mpc) modes end event outcome step asks none =
    elim (row_or_full modes end event outcome (what.Came (message.Signal asks.0)) step asks.1) [
      | inl row ↦ pull_none modes end event asks.0.id mpc outcome asks.3 none (pull_row modes end event asks.0 mpc outcome asks.2 row)
      | inr full ↦ of_reply SendsNoUser (reply.Full end.size full.0) [] outcome (λ header payloads k. absurd k) full.1
    ]

heads_roomy : (q : Queue) (modes : List Mode) (end : End) (event : Event) (outcome : Outcome) → Step modes end event outcome
    → AsksForHead q modes event.what → HasRoomForOne end → NotFull outcome.reply
heads_roomy queue.Push modes end event outcome step asks room =
    takes_roomy end outcome (row_at modes end event outcome what.Take step
    (can_write modes end event outcome what.Take step (inr room) asks (takes_small end step.row)) asks)
heads_roomy (queue.Channel mpc) modes end event outcome step asks room =
    let w : What = what.Came (message.Signal asks.0) in
    let small : RowOf modes end event w step.row → IsSmall step.row.effects = λ row. pull_small modes end event asks.0.id mpc step.row (pull_row modes end event asks.0 mpc step.row asks.2 row) in
    pull_roomy modes end event asks.0.id mpc outcome (pull_row modes end event asks.0 mpc outcome asks.2
    (row_at modes end event outcome w step (can_write modes end event outcome w step (inr room) asks.1 small) asks.1))

asked_for : (q : Queue) (act : Act) (end : End) (s : Sent) → AsksForHead q act.modes act.event.what → head_of q end ≡ Some s
    → IsAskedFor s act end
asked_for queue.Push act end s asks head = inl (asks, head)
asked_for (queue.Channel mpc) act end s asks head = inr (inl (asks.0, asks.1, (mpc, asks.2, asks.3, head)))

pub answers_with_head : (modes : List Mode) (end : End) (event : Event) (outcome : Outcome) (q : Queue) → Step modes end event outcome
    → AsksForHead q modes event.what → AnswersWithHead q end outcome.reply
answers_with_head modes end event outcome q step asks = record {
  sent = λ s head roomy. (out_sends act end s step (inl roomy) (asked_for q act end s asks head)).sent;
  none = λ none header payloads said. heads_none q modes end event outcome step asks none header payloads (has_contained (sends outcome.reply) _ said);
  roomy = heads_roomy q modes end event outcome step asks;
}
  where
    act : Act
    act = record { site = Left; modes = modes; event = event; outcome = outcome; lost = false }
