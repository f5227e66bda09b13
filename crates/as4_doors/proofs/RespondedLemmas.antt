-- A reply has one response.
use Rattle.std.proofs.Common.{◌≡◌, ℕ, ◌<◌, ◌≤◌, Bool, List, [], ◌∷◌, Option, Some, sym, ap, ap₂, ◌∙◌, subst, arith, ◌⊎◌, inl, inr}
use Rattle.std.proofs.lemmas.Bool.{cases_lt}
use Rattle.std.specs.Prelude.{option_map}
use Rattle.as4_http.specs.Written.{response_text}
use Rattle.as4_codes.specs.ErrorCodes.{ErrorRow, error_row, error_item}
use Rattle.as4_codes.specs.Signals.{IsErrorSignalOf}
use Rattle.as4_message.specs.declared.received.Refusal.{Refusal}
use Rattle.as4_values.proofs.MomentLemmas.{one_stamp_of}
use Rattle.as4_values.proofs.SignalLemmas.{same_signal}
use Rattle.as4_values.specs.declared.message.Message.{Message}
use Rattle.as4_values.specs.declared.message.Message.TheVariants as message
use Rattle.as4_values.specs.declared.signal.Signal.{Signal}
use Rattle.as4_values.specs.declared.signal_body.SignalBody.{SignalBody}
use Rattle.as4_values.specs.declared.signal_body.SignalBody.TheVariants as body
use Rattle.as4_values.specs.declared.payload.Payload.{Payload}
use Rattle.message_model.specs.Package.{IsBoundary}
use Rattle.message_model.specs.Wire.{HasBoundary, media_of, body_of}
use Rattle.exchange_model.specs.declared.reply.Reply.{Reply}
use Rattle.exchange_model.specs.declared.reply.Reply.TheVariants as reply
use Rattle.as4_doors.specs.Responses.{connection, Carries, IsResponse, IsRefusalResponse}

-- the least free boundary is one
one_number : (m n : ℕ) (root : List ℕ) (payloads : List Payload) → IsBoundary m root payloads → IsBoundary n root payloads → (m < n → ⊥) × (n < m → ⊥)
one_number m n root payloads first second = (λ less. second.least m less first.free, λ less. first.least n less second.free)

neither : (m n : ℕ) → ((m < n) ⊎ (n ≤ m)) → ((n < m) ⊎ (m ≤ n)) → (m < n → ⊥) → (n < m → ⊥) → m ≡ n
neither m n (inl less) other not_less not_more = absurd (not_less less)
neither m n (inr more) (inl less) not_less not_more = absurd (not_more less)
neither m n (inr more) (inr less) not_less not_more = omega (arith, more, less)

neither_less : (m n : ℕ) → (m < n → ⊥) → (n < m → ⊥) → m ≡ n
neither_less m n not_less not_more = neither m n (cases_lt m n) (cases_lt n m) not_less not_more

one_boundary : (m : Message) (a b : ℕ) → HasBoundary a m → HasBoundary b m → a ≡ b
one_boundary (message.User header payloads) a b first second =
    let less = one_number a b _ payloads first second in neither_less a b less.0 less.1
one_boundary (message.Signal s) a b first second = first ∙ sym second
one_boundary (message.Pair p) a b first second = first ∙ sym second

abbrev carried_text : Bool → Message → ℕ → List ℕ
carried_text kept m n = response_text 200 (Some (media_of n m)) (connection kept) (body_of n m)

text_of : (kept : Bool) (m : Message) (bytes : List ℕ) (carries : Carries kept m bytes) → bytes ≡ carried_text kept m carries.2.number
text_of kept m bytes carries =
    carries.3 ∙ ap₂ (λ (media body : List ℕ). response_text 200 (Some media) (connection kept) body) carries.2.media_is carries.2.body_is

pub one_carried : (kept : Bool) (m : Message) (one other : List ℕ) → Carries kept m one → Carries kept m other → one ≡ other
one_carried kept m one other first second =
    text_of kept m one first ∙ (ap (carried_text kept m) (one_boundary m first.2.number second.2.number first.2.boundary second.2.boundary) ∙ sym (text_of kept m other second))

pub one_response_of : (kept : Bool) (r : Reply) (one other : List ℕ) → IsResponse kept r one → IsResponse kept r other → one ≡ other
one_response_of kept (reply.Answer m) one other first second = one_carried kept m one other first second
one_response_of kept reply.Quiet one other first second = first ∙ sym second
one_response_of kept (reply.Submitted number id) one other first second = first ∙ sym second
one_response_of kept reply.NoMode one other first second = first ∙ sym second
one_response_of kept reply.OutboxFull one other first second = first ∙ sym second
one_response_of kept reply.TooLarge one other first second = first ∙ sym second
one_response_of kept (reply.Entry header payloads) one other first second = one_carried kept (message.User header payloads) one other first second
one_response_of kept reply.NoEntry one other first second = first ∙ sym second
one_response_of kept reply.Gone one other first second = first ∙ sym second
one_response_of kept (reply.Confirmed upto) one other first second = first ∙ sym second
one_response_of kept (reply.Pending tries) one other first second = first ∙ sym second
one_response_of kept reply.Receipted one other first second = first ∙ sym second
one_response_of kept reply.Failed one other first second = first ∙ sym second
one_response_of kept (reply.RefusedWith code) one other first second = first ∙ sym second
one_response_of kept reply.Unknown one other first second = first ∙ sym second
one_response_of kept (reply.Full size need) one other first second = first ∙ sym second
one_response_of kept (reply.Stopped before after) one other first second = first ∙ sym second
one_response_of kept (reply.Ticked failed) one other first second = first ∙ sym second
one_response_of kept (reply.Push address m) one other first second = first ∙ sym second
one_response_of kept reply.Nothing one other first second = first ∙ sym second
one_response_of kept (reply.Request address m) one other first second = first ∙ sym second

-- ---- refusals

same_body : (row : Option ErrorRow) (about : Option (List ℕ)) (a b : SignalBody) → option_map (λ r. body.Errors (error_item r about ∷ [])) row ≡ Some a
    → option_map (λ r. body.Errors (error_item r about ∷ [])) row ≡ Some b → a ≡ b
same_body row about a b first second = let both = sym first ∙ second in cc

same_fields : (a b : Signal) → a.stamp ≡ b.stamp → a.id ≡ b.id → a.ref_to ≡ b.ref_to → a.body ≡ b.body → a ≡ b
same_fields a b stamp id refers says =
    let built : List ℕ → List ℕ → Signal = λ s i. record { stamp = s; id = i; ref_to = a.ref_to; body = a.body; whole = a.whole } in
    ap (λ (s : List ℕ). built s a.id) stamp ∙ (ap (λ (i : List ℕ). built b.stamp i) id ∙ same_signal b a.ref_to a.body refers says a.whole)

one_signal : (code : ℕ) (about : Option (List ℕ)) (moment nonce : ℕ) (a b : Signal) → IsErrorSignalOf code about moment nonce a → IsErrorSignalOf code about moment nonce b → a ≡ b
one_signal code about moment nonce a b first second =
    same_fields a b (one_stamp_of moment a.stamp b.stamp first.stamped second.stamped) (first.named ∙ sym second.named) (first.refers ∙ sym second.refers)
    (same_body (error_row code) about a.body b.body first.tells second.tells)

pub one_refusal_response_of : (kept : Bool) (refusal : Refusal) (moment nonce : ℕ) (one other : List ℕ) → IsRefusalResponse kept refusal moment nonce one
    → IsRefusalResponse kept refusal moment nonce other → one ≡ other
one_refusal_response_of kept refusal moment nonce one other first second =
    let same = one_signal refusal.code refusal.about moment nonce second.0 first.0 second.1 first.1 in
    one_carried kept (message.Signal first.0) one other first.2 (subst (λ (s : Signal). Carries kept (message.Signal s) other) same second.2)
