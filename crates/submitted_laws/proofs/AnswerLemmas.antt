-- The answer to a submission's user message is its receipt, or an error signal about it.
use Rattle.std.proofs.Common.{◌≡◌, ℕ, List, [], ◌∷◌, ◌⊎◌, inl, inr, subst, ap}
use Rattle.as4_effects.specs.declared.effect.Effect.{Effect}
use Rattle.as4_effects.specs.declared.effect.Effect.TheVariants as effect
use Rattle.as4_effects.specs.declared.submission.Submission.{Submission}
use Rattle.as4_message.specs.Meaning.{ArePaired}
use Rattle.as4_values.specs.declared.message.Message.{Message}
use Rattle.as4_values.specs.declared.message.Message.TheVariants as message
use Rattle.exchange_model.specs.End.{End}
use Rattle.exchange_model.specs.Questions.{is_known}
use Rattle.exchange_model.specs.Table.{Rests, Errs, Receipts, UserComes, RowOf, has_room}
use Rattle.exchange_model.specs.declared.event.Event.{Event}
use Rattle.exchange_model.specs.declared.outcome.Outcome.{Outcome}
use Rattle.exchange_model.specs.declared.reply.Reply.TheVariants as reply
use Rattle.exchange_model.specs.declared.what.What.{What}
use Rattle.message_laws.specs.Readable.{IsShort}
use Rattle.mode_values.specs.ModeMatch.{mode_of}
use Rattle.mode_values.specs.declared.mode.Mode.{Mode}
use Rattle.submitted_laws.proofs.Cases.{by_option, by_bool}
use Rattle.submitted_laws.proofs.SubmittedLengths.{receipt_is_short, error_signal_is_short}
use Rattle.submitted_laws.specs.Answered.{IsAnswerTo}
use Rattle.submitted_laws.specs.Submitted.{IsShortlySubmitted, IsReceiptFor, IsErrorSignalFor}

abbrev IsKnownAnswer : Submission → Message → Type 0
IsKnownAnswer s m = IsReceiptFor s m ⊎ IsErrorSignalFor s m

-- a reply has one message
same_message : (effects : List Effect) (m other : Message) (outcome : Outcome) → outcome ≡ record { effects = effects; reply = reply.Answer other }
    → outcome.reply ≡ reply.Answer m → m ≡ other
same_message effects m other outcome is answers =
    let told : outcome.reply ≡ reply.Answer other = ap (λ (o : Outcome). o.reply) is in cc

refuses : (s : Submission) (m : Message) (event : Event) (outcome : Outcome) → Errs 10 s.header.id event outcome → outcome.reply ≡ reply.Answer m
    → IsKnownAnswer s m
refuses s m event outcome row answers = inr (record {
  code = 10;
  ms = event.stamp;
  nonce = event.nonce;
  signal = row.0;
  made = row.1;
  is = same_message [] m (message.Signal row.0) outcome row.2 answers;
})

receipts : (s : Submission) (m : Message) (effects : List Effect) (event : Event) (outcome : Outcome) → Receipts s.header effects event outcome
    → outcome.reply ≡ reply.Answer m → IsKnownAnswer s m
receipts s m effects event outcome row answers = inl (record {
  ms = event.stamp;
  nonce = event.nonce;
  signal = row.0;
  made = row.1;
  is = same_message effects m (message.Signal row.0) outcome row.2 answers;
})

comes : (s : Submission) (m : Message) (modes : List Mode) (end : End) (event : Event) (outcome : Outcome)
    → UserComes modes end event s.header s.payloads outcome → outcome.reply ≡ reply.Answer m → IsKnownAnswer s m
unfolding UserComes
comes s m modes end event outcome row answers =
    by_option _ _ _ (mode_of modes s.header) row (λ k. refuses s m event outcome k answers) (λ mode k.
    by_bool _ _ _ (is_known s.header.id end.inbox) k (λ known. receipts s m [] event outcome known answers) (λ new.
    receipts s m (effect.Delivered new.0 ∷ []) event outcome new.3 answers))

-- a full journal is no answer
not_full : (s : Submission) (m : Message) (size need : ℕ) (outcome : Outcome) → Rests (reply.Full size need) outcome → outcome.reply ≡ reply.Answer m
    → IsKnownAnswer s m
not_full s m size need outcome is answers =
    let told : outcome.reply ≡ reply.Full size need = ap (λ (o : Outcome). o.reply) is in absurd cc

answer_is_known : (s : Submission) (m : Message) → IsAnswerTo s m → IsKnownAnswer s m
answer_is_known s m is =
    let row : Outcome = is.step.row in
    let decided : UserComes is.modes is.end is.event s.header s.payloads row =
    subst (λ (w : What). RowOf is.modes is.end is.event w row) is.came is.step.decided in
    by_bool _ _ _ (has_room is.end row.effects) is.step.limited
    (λ same. comes s m is.modes is.end is.event row decided (rw same at is.answers))
    (λ full. not_full s m _ _ is.outcome full is.answers)

pub answer_is_short : (s : Submission) (m : Message) → IsShortlySubmitted s → IsAnswerTo s m → IsShort m
answer_is_short s m submitted is = elim (answer_is_known s m is) [
  | inl receipt ↦ receipt_is_short s m submitted receipt
  | inr signal ↦ error_signal_is_short s m submitted signal
]

-- a signal has no payloads to pair
pub answer_is_paired : (s : Submission) (m : Message) → IsAnswerTo s m → ArePaired m
answer_is_paired s m is = elim (answer_is_known s m is) [
  | inl receipt ↦ rw receipt.is tt
  | inr signal ↦ rw signal.is tt
]
