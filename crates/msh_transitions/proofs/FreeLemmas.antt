-- No row of a received message is free: its reply is a message, or quiet.
use Rattle.std.proofs.Common.{◌≡◌, ℕ, inl, inr, List, [], true, false, Option, Some, subst}
use Rattle.std.specs.Prelude.{MatchOption}
use Rattle.std.specs.Bool.{MatchBool}
use Rattle.std.specs.Option.{option_and_then}
use Rattle.as4_effects.specs.declared.effect.Effect.{Effect}
use Rattle.as4_effects.specs.declared.queue.Queue.TheVariants as queue
use Rattle.mode_values.specs.ModeMatch.{mode_of, channel_mode}
use Rattle.as4_values.specs.declared.header.UserHeader.{UserHeader}
use Rattle.as4_values.specs.declared.message.Message.{Message}
use Rattle.as4_values.specs.declared.message.Message.TheVariants as message
use Rattle.mode_values.specs.declared.mode.Mode.{Mode}
use Rattle.as4_values.specs.declared.payload.Payload.{Payload}
use Rattle.as4_values.specs.declared.signal.Signal.{Signal}
use Rattle.as4_values.specs.declared.signal_body.SignalBody.{SignalBody}
use Rattle.as4_values.specs.declared.signal_body.SignalBody.TheVariants as body
use Rattle.exchange_model.specs.End.{End}
use Rattle.exchange_model.specs.Questions.{head_of, is_known, is_pending, sent_of}
use Rattle.exchange_model.specs.Table.{Errs, Receipts, UserComes, PullComes, Settles, ReceiptComes, SignalComes, PairComes, Comes, is_quiet}
use Rattle.exchange_model.specs.declared.event.Event.{Event}
use Rattle.exchange_model.specs.declared.outcome.Outcome.{Outcome}
use Rattle.exchange_model.specs.declared.reply.Reply.{Reply}
use Rattle.exchange_model.specs.declared.reply.Reply.TheVariants as reply
use Rattle.exchange_model.specs.declared.sent.Sent.{Sent}
use Rattle.msh_transitions.specs.Free.{IsBare, IsFree}

-- a reply that isn't bare
speaks : (r : Reply) (effects : List Effect) (row : Outcome) → row ≡ record { effects = effects; reply = r } → (IsBare r → ⊥) → IsBare row.reply → ⊥
speaks r effects row e full bare = full (subst (λ (o : Outcome). IsBare o.reply) e bare)

errs_speak : (code : ℕ) (about : List ℕ) (event : Event) (row : Outcome) → Errs code about event row → IsBare row.reply → ⊥
errs_speak code about event row h = speaks _ [] row h.2 (λ none. none)

receipts_speak : (header : UserHeader) (effects : List Effect) (event : Event) (row : Outcome) → Receipts header effects event row → IsBare row.reply → ⊥
receipts_speak header effects event row h = speaks _ effects row h.2 (λ none. none)

by_option : {X : Type 0} (P : Type 0) (Q : X → Type 0) (R : Type 0) (o : Option X) → MatchOption o P Q → (P → R) → ((x : X) → Q x → R) → R
by_option P Q R (Some x) m none some = some x m
by_option P Q R o m none some = none m

by_bool : (P Q R : Type 0) (b : _) → MatchBool b P Q → (P → R) → (Q → R) → R
by_bool P Q R true m first second = first m
by_bool P Q R false m first second = second m

user_comes : (modes : List Mode) (end : End) (event : Event) (header : UserHeader) (payloads : List Payload) (row : Outcome)
    → UserComes modes end event header payloads row → IsBare row.reply → ⊥
unfolding UserComes
user_comes modes end event header payloads row h =
    by_option _ _ _ (mode_of modes header) h (errs_speak 10 header.id event row) (λ mode k.
    by_bool _ _ _ (is_known header.id end.inbox) k (receipts_speak header [] event row) (λ d. receipts_speak header _ event row d.3))

pull_comes : (modes : List Mode) (end : End) (event : Event) (id mpc : List ℕ) (row : Outcome) → PullComes modes end event id mpc row
    → IsBare row.reply → ⊥
unfolding PullComes
pull_comes modes end event id mpc row h =
    by_option _ _ _ (channel_mode modes mpc) h (errs_speak 1 id event row) (λ mode k.
    by_option _ _ _ (head_of (queue.Channel mpc) end) k (errs_speak 6 id event row) (λ s g. speaks _ _ row g (λ none. none)))

receipt_comes : (end : End) (event : Event) (id : List ℕ) (ref_to : Option (List ℕ)) (copy : Option UserHeader) (row : Outcome)
    → ReceiptComes end event id ref_to copy row → IsBare row.reply → ⊥
unfolding ReceiptComes
receipt_comes end event id ref_to copy row h =
    by_option _ _ _ (option_and_then (λ ref. sent_of ref end.sent) ref_to) h (errs_speak 3 id event row) (λ s k.
    elim k [ inl other ↦ errs_speak 302 id event row other.1 | inr own ↦ settles s own.1 ])
  where
    settles : (s : Sent) → Settles s row → IsBare row.reply → ⊥
    settles s k = by_bool _ _ _ (is_pending s) k (λ g. speaks reply.Quiet _ row g (λ none. none)) (λ r. speaks reply.Quiet [] row r (λ none. none))

signal_comes : (modes : List Mode) (end : End) (event : Event) (id : List ℕ) (ref_to : Option (List ℕ)) (s : SignalBody) (row : Outcome)
    → SignalComes modes end event id ref_to s row → IsBare row.reply → ⊥
signal_comes modes end event id ref_to (body.Pull mpc) row h = pull_comes modes end event id mpc row h
signal_comes modes end event id ref_to (body.Receipt copy) row h = receipt_comes end event id ref_to copy row h
signal_comes modes end event id ref_to (body.Errors items) row h = speaks reply.Quiet _ row h (λ none. none)

pair_comes : (modes : List Mode) (end : End) (event : Event) (receipt pull : Signal) (row : Outcome) → PairComes modes end event receipt pull row
    → IsBare row.reply → ⊥
unfolding PairComes
pair_comes modes end event receipt pull row h =
    by_bool _ _ _ (is_quiet h.0.reply) h.2
    (λ k bare. signal_comes modes _ event pull.id pull.ref_to pull.body k.0 k.1 (subst (λ (o : Outcome). IsBare o.reply) k.2 bare))
    (λ same bare. signal_comes modes end event receipt.id receipt.ref_to receipt.body h.0 h.1 (subst (λ (o : Outcome). IsBare o.reply) same bare))

pub comes : (modes : List Mode) (end : End) (event : Event) (m : Message) (row : Outcome) → Comes modes end event m row → IsFree row → ⊥
comes modes end event (message.User header payloads) row h free = user_comes modes end event header payloads row h free.bare
comes modes end event (message.Signal signal) row h free = signal_comes modes end event signal.id signal.ref_to signal.body row h free.bare
comes modes end event (message.Pair pair) row h free = pair_comes modes end event pair.receipt pair.pull row h free.bare
