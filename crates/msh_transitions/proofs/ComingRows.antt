-- The rows of received messages.
use Rattle.std.proofs.Common.{◌≡◌, ℕ, ◌⊎◌, inl, inr, List, [], ◌∷◌, true, false, Option, Some, None, option_map, refl, ap, sym, subst, ◌∙◌}
use Rattle.std.specs.Prelude.{IsSome, MatchOption}
use Rattle.std.specs.Option.{IfSome}
use Rattle.std.proofs.lemmas.Option.{same_Some}
use Rattle.as4_effects.specs.declared.delivery.Delivery.{Delivery}
use Rattle.as4_effects.specs.declared.effect.Effect.TheVariants as effect
use Rattle.as4_effects.specs.declared.queue.Queue.{Queue}
use Rattle.as4_values.specs.declared.header.UserHeader.{UserHeader}
use Rattle.as4_values.specs.declared.message.Message.TheVariants as message
use Rattle.as4_values.specs.declared.payload.Payload.{Payload}
use Rattle.as4_effects.specs.declared.submission.Submission.{Submission}
use Rattle.as4_values.specs.declared.signal.Signal.{Signal}
use Rattle.msh_state.specs.Standing.{CanStand}
use Rattle.exchange_model.specs.Apply.{is_fit, is_one}
use Rattle.exchange_model.specs.End.{End}
use Rattle.as4_codes.specs.ErrorCodes.{error_row, error_table}
use Rattle.exchange_model.specs.Questions.{head_of, is_known, is_pending, sent_at}
use Rattle.as4_codes.specs.Signals.{IsReceiptOf}
use Rattle.exchange_model.specs.Table.{Delivers, Errs, Gives, IsOther, ReceiptComes, Settles, message_of}
use Rattle.exchange_model.specs.declared.event.Event.{Event}
use Rattle.exchange_model.specs.declared.outcome.Outcome.{Outcome}
use Rattle.exchange_model.specs.declared.reply.Reply.TheVariants as reply
use Rattle.exchange_model.specs.declared.sent.Sent.{Sent}
use Rattle.exchange_model.proofs.FoundLemmas.{sent_at_has}
use Rattle.msh_transitions.specs.Naming.{IsFor, IsRefusedBy, referred}
use Rattle.msh_transitions.proofs.HeadLemmas.{head_fits}
use Rattle.msh_transitions.proofs.StandLemmas.{delivery_fits, gives_stands}

-- the table has the codes
pub code_1_is_known : IsSome (error_row 1)
unfolding error_row error_table
code_1_is_known = refl

pub code_3_is_known : IsSome (error_row 3)
unfolding error_row error_table
code_3_is_known = refl

pub code_6_is_known : IsSome (error_row 6)
unfolding error_row error_table
code_6_is_known = refl

pub code_10_is_known : IsSome (error_row 10)
unfolding error_row error_table
code_10_is_known = refl

pub code_302_is_known : IsSome (error_row 302)
unfolding error_row error_table
code_302_is_known = refl

-- the codes of refused receipts
pub refused_is_known : (ref_to : Option (List ℕ)) (copy : Option UserHeader) (sent : List Sent) (code : ℕ) → IsRefusedBy ref_to copy sent code
    → IsSome (error_row code)
refused_is_known ref_to copy sent code refused = by_named (referred ref_to sent) refused
  where
    by_named : (o : Option Sent) → MatchOption o (code ≡ 3) (λ s. IsOther copy s.submission.header × (code ≡ 302)) → IsSome (error_row code)
    by_named None e = subst (λ n. IsSome (error_row n)) (sym e) code_3_is_known
    by_named (Some s) other = subst (λ n. IsSome (error_row n)) (sym other.1) code_302_is_known

-- a receipt whose reference names a submission, without a copy of another header
pub is_for : (ref_to : Option (List ℕ)) (copy : Option UserHeader) (sent : List Sent) (number : ℕ) (submission : Submission)
    → sent_at number sent ≡ referred ref_to sent → Some submission ≡ option_map (λ (s : Sent). s.submission) (sent_at number sent)
    → (IsOther copy submission.header → ⊥) → (s : Sent) × (sent_at number sent ≡ Some s) × IsFor ref_to copy sent s
is_for ref_to copy sent number submission found got own = by_found (sent_at number sent) refl got
  where
    by_found : (o : Option Sent) → sent_at number sent ≡ o → Some submission ≡ option_map (λ (s : Sent). s.submission) o
        → (s : Sent) × (sent_at number sent ≡ Some s) × IsFor ref_to copy sent s
    by_found None e g = absurd cc
    by_found (Some s) e g = (
      s,
      e,
      record {
        names = sym found ∙ e;
        own = λ other. own (subst (λ (u : Submission). IsOther copy u.header) (sym (same_Some submission s.submission g)) other);
      },
    )

-- a receipt that is refused
pub refused_comes : (end : End) (event : Event) (id : List ℕ) (ref_to : Option (List ℕ)) (copy : Option UserHeader) (code : ℕ) (outcome : Outcome)
    → IsRefusedBy ref_to copy end.sent code → Errs code id event outcome → ReceiptComes end event id ref_to copy outcome
unfolding ReceiptComes
refused_comes end event id ref_to copy code outcome refused errs = by_named (referred ref_to end.sent) refused
  where
    by_named : (o : Option Sent) → MatchOption o (code ≡ 3) (λ s. IsOther copy s.submission.header × (code ≡ 302))
        → MatchOption o (Errs 3 id event outcome)
        (λ s. (IsOther copy s.submission.header × Errs 302 id event outcome) ⊎ ((IsOther copy s.submission.header → ⊥) × Settles s outcome))
    by_named None e = subst (λ n. Errs n id event outcome) e errs
    by_named (Some s) other = inl (other.0, subst (λ n. Errs n id event outcome) other.1 errs)

-- a receipt for a submission
pub settled_comes : (end : End) (event : Event) (id : List ℕ) (ref_to : Option (List ℕ)) (copy : Option UserHeader) (s : Sent) (outcome : Outcome)
    → IsFor ref_to copy end.sent s → Settles s outcome → ReceiptComes end event id ref_to copy outcome
unfolding ReceiptComes
settled_comes end event id ref_to copy s outcome is_for settles = rw is_for.names (inr (is_for.own, settles))

-- a message that is received for the first time is delivered
pub delivers : (event : Event) (header : UserHeader) (payloads : List Payload) (d : Delivery) (signal : Signal) (outcome : Outcome)
    → Gives (effect.Delivered d) (reply.Answer (message.Signal signal)) outcome
    → d.header ≡ header → d.payloads ≡ payloads → IsReceiptOf header event.stamp event.nonce signal
    → Delivers event header payloads outcome
delivers event header payloads d signal outcome g h p is = (d, h, p, (signal, is, g))

pub delivers_stands : (end : End) (event : Event) (header : UserHeader) (payloads : List Payload) (outcome : Outcome)
    → is_known header.id end.inbox ≡ false → Delivers event header payloads outcome → CanStand end outcome.effects
delivers_stands end event header payloads outcome new row =
    gives_stands (effect.Delivered row.0) (reply.Answer (message.Signal row.3.0)) outcome end row.3.2
    (delivery_fits row.0 end (ap (λ (h : UserHeader). is_known h.id end.inbox) row.1 ∙ new))

-- the answer is the submission of this number
abbrev pub Sends : ℕ → Outcome → Option Sent → Type 0
Sends number outcome found =
    IfSome found (λ s. Gives (effect.Tried number) (reply.Answer (message_of s.submission)) outcome)

head_is_there : (o found : Option Sent) (number : ℕ) → Some number ≡ option_map (λ (s : Sent). s.submission.number) o → found ≡ o
    → IsSome found
head_is_there None found number e f = absurd cc
head_is_there (Some s) found number e f = rw f refl

sends_stands : (end : End) (number : ℕ) (found : Option Sent) (outcome : Outcome) → IsSome found → Sends number outcome found
    → is_fit (effect.Tried number) end ≡ true → CanStand end outcome.effects
sends_stands end number None outcome there sends fit = absurd cc
sends_stands end number (Some s) outcome there sends fit = gives_stands _ _ outcome end sends fit

pub head_stands : (q : Queue) (end : End) (number : ℕ) (outcome : Outcome)
    → Some number ≡ option_map (λ (s : Sent). s.submission.number) (head_of q end)
    → sent_at number end.sent ≡ head_of q end → Sends number outcome (sent_at number end.sent) → CanStand end outcome.effects
head_stands q end number outcome e f sends =
    sends_stands end number (sent_at number end.sent) outcome (head_is_there (head_of q end) (sent_at number end.sent) number e f) sends
    (head_fits q end number e f)

-- the receipt for a pending one was received
pub settles : (number : ℕ) (sent : List Sent) (outcome : Outcome) → is_one is_pending (sent_at number sent) ≡ true
    → Gives (effect.Receipted number) reply.Quiet outcome → IfSome (sent_at number sent) (λ s. Settles s outcome)
settles number sent outcome pending g = by (sent_at number sent) refl pending
  where
    by : (o : Option Sent) → sent_at number sent ≡ o → is_one is_pending o ≡ true → IfSome o (λ s. Settles s outcome)
    by None at p = tt
    by (Some s) at p =
        rw p (g ∙ ap (λ n. record { effects = effect.Receipted n ∷ []; reply = reply.Quiet }) (sym (sent_at_has number sent s at).1))

pub receipt_fits : (number : ℕ) (end : End) → is_one is_pending (sent_at number end.sent) ≡ true
    → is_fit (effect.Receipted number) end ≡ true
unfolding is_fit
receipt_fits number end pending = pending
