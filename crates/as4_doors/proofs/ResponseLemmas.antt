-- Responses that are made.
use Rattle.std.proofs.Common.{◌≡◌, ℕ, Bool, List, Option, Some, Result, Ok, Err, IfOk, sym, ap₂, ◌∙◌, subst}
use Rattle.as4_http.specs.Written.{response_text}
use Rattle.as4_values.specs.declared.memory.NoMemory.{NoMemory}
use Rattle.as4_values.specs.declared.message.Message.{Message}
use Rattle.as4_values.specs.declared.message.Message.TheVariants as message
use Rattle.as4_values.specs.declared.signal.Signal.{Signal}
use Rattle.as4_codes.specs.Signals.{IsErrorSignalOf}
use Rattle.as4_message.specs.declared.received.Refusal.{Refusal}
use Rattle.message_model.specs.Wire.{IsWire}
use Rattle.exchange_model.specs.declared.reply.Reply.{Reply}
use Rattle.as4_doors.specs.Responses.{connection, Carries, IsResponse, IsRefusalResponse}
use Rattle.as4_doors.specs.WrittenText.{written_text}
use Rattle.as4_doors.specs.declared.written.Written.{Written}

-- a wire that is written is carried
pub carries : (kept : Bool) (m : Message) (media body wire_media wire_body : List ℕ) (r : Result Written NoMemory) → media ≡ wire_media → body ≡ wire_body
    → IsWire m wire_media wire_body → IfOk r (λ w. written_text w ≡ response_text 200 (Some media) (connection kept) body) → IfOk r (λ w. Carries kept m (written_text w))
carries kept m media body wire_media wire_body (Ok w) medias bodies wire made =
    (wire_media, wire_body, wire, made ∙ ap₂ (λ (m b : List ℕ). response_text 200 (Some m) (connection kept) b) medias bodies)
carries kept m media body wire_media wire_body (Err e) medias bodies wire made = tt

-- the text of a response with another body that is the same
pub with_body : (status : ℕ) (media : Option (List ℕ)) (connected : List ℕ) (body other : List ℕ) (r : Result Written NoMemory) → body ≡ other
    → IfOk r (λ w. written_text w ≡ response_text status media connected body) → IfOk r (λ w. written_text w ≡ response_text status media connected other)
with_body status media connected body other r same made = subst (λ (b : List ℕ). IfOk r (λ w. written_text w ≡ response_text status media connected b)) same made

-- the response of a reply that is known
pub on_reply : (kept : Bool) (r known : Reply) (result : Result Written NoMemory) → r ≡ known → IfOk result (λ w. IsResponse kept known (written_text w))
    → IfOk result (λ w. IsResponse kept r (written_text w))
on_reply kept r known result same made = subst (λ (r : Reply). IfOk result (λ w. IsResponse kept r (written_text w))) (sym same) made

-- the response that carries the error signal of a refusal
pub refused : (kept : Bool) (refusal : Refusal) (moment nonce : ℕ) (signal : Signal) (r : Result Written NoMemory)
    → IsErrorSignalOf refusal.code refusal.about moment nonce signal → IfOk r (λ w. Carries kept (message.Signal signal) (written_text w))
    → IfOk r (λ w. IsRefusalResponse kept refusal moment nonce (written_text w))
refused kept refusal moment nonce signal (Ok w) is carries = (signal, is, carries)
refused kept refusal moment nonce signal (Err e) is carries = tt
