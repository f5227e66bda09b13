-- The response to a reply.
use Rattle.std.specs.Prelude.{◌≡◌, ℕ, Bool, true, false, not, if◌then◌else◌, List, [], ◌∷◌, ◌++◌, Some, None, codes, decimal}
use Rattle.as4_http.specs.Written.{response_text}
use Rattle.as4_codes.specs.Signals.{IsErrorSignalOf}
use Rattle.as4_message.specs.declared.received.Refusal.{Refusal}
use Rattle.as4_values.specs.declared.message.Message.{Message}
use Rattle.as4_values.specs.declared.message.Message.TheVariants as message
use Rattle.as4_values.specs.declared.signal.Signal.{Signal}
use Rattle.message_model.specs.Wire.{IsWire}
use Rattle.exchange_model.specs.declared.reply.Reply.{Reply}
use Rattle.exchange_model.specs.declared.reply.Reply.TheVariants as reply
use Rattle.as4_doors.specs.declared.written.Fixed.TheVariants.{Unavailable}
use Rattle.as4_doors.specs.WrittenText.{fixed_text}

-- how a response says whether its connection is kept
abbrev pub connection : Bool → List ℕ
connection kept = if kept then codes "keep-alive" else codes "close"

unfoldable pub plain_media : List ℕ
plain_media = codes "text/plain"

-- a response of one line of text
unfoldable pub line_response : Bool → ℕ → List ℕ → List ℕ
line_response kept status words = response_text status (Some plain_media) (connection kept) (words ++ 10 ∷ [])

-- a response that carries a message
abbrev pub Carries : Bool → Message → List ℕ → Type 0
Carries kept message bytes =
    (media : List ℕ) × (body : List ℕ) × IsWire message media body
    × (bytes ≡ response_text 200 (Some media) (connection kept) body)

-- the response to a reply; the last six have the fixed response that the service is unavailable, the last four of them
-- since no request of a door gets such a reply
abbrev pub IsResponse : Bool → Reply → List ℕ → Type 0
IsResponse kept (reply.Answer message) bytes = Carries kept message bytes
IsResponse kept reply.Quiet bytes = bytes ≡ response_text 202 None (connection kept) []
IsResponse kept (reply.Submitted number id) bytes = bytes ≡ line_response kept 200 (decimal number ++ codes " " ++ id)
IsResponse kept reply.NoMode bytes = bytes ≡ line_response kept 404 (codes "no mode")
IsResponse kept reply.OutboxFull bytes = bytes ≡ line_response kept 409 (codes "outbox full")
IsResponse kept reply.TooLarge bytes = bytes ≡ line_response kept 409 (codes "too large")
IsResponse kept (reply.Entry header payloads) bytes = Carries kept (message.User header payloads) bytes
IsResponse kept reply.NoEntry bytes = bytes ≡ line_response kept 404 (codes "no entry")
IsResponse kept reply.Gone bytes = bytes ≡ line_response kept 410 (codes "gone")
IsResponse kept (reply.Confirmed upto) bytes = bytes ≡ line_response kept 200 (codes "confirmed " ++ decimal upto)
IsResponse kept (reply.Pending tries) bytes = bytes ≡ line_response kept 200 (codes "pending " ++ decimal tries)
IsResponse kept reply.Receipted bytes = bytes ≡ line_response kept 200 (codes "receipted")
IsResponse kept reply.Failed bytes = bytes ≡ line_response kept 200 (codes "failed EBMS:0301")
IsResponse kept (reply.RefusedWith code) bytes = bytes ≡ line_response kept 200 (codes "refused " ++ code)
IsResponse kept reply.Unknown bytes = bytes ≡ line_response kept 404 (codes "unknown")
IsResponse kept (reply.Full size need) bytes = bytes ≡ fixed_text Unavailable
IsResponse kept (reply.Stopped before after) bytes = bytes ≡ fixed_text Unavailable
IsResponse kept (reply.Ticked failed) bytes = bytes ≡ fixed_text Unavailable
IsResponse kept (reply.Push address message) bytes = bytes ≡ fixed_text Unavailable
IsResponse kept reply.Nothing bytes = bytes ≡ fixed_text Unavailable
IsResponse kept (reply.Request address message) bytes = bytes ≡ fixed_text Unavailable

-- a response that takes no memory
abbrev pub is_fixed : Bool → Reply → Bool
is_fixed kept reply.Quiet = not kept
is_fixed kept (reply.Full size need) = true
is_fixed kept (reply.Stopped before after) = true
is_fixed kept (reply.Ticked failed) = true
is_fixed kept (reply.Push address message) = true
is_fixed kept reply.Nothing = true
is_fixed kept (reply.Request address message) = true
is_fixed kept reply = false

-- the response to a request that is refused: the error signal of the refusal, made at this moment with this nonce
abbrev pub IsRefusalResponse : Bool → Refusal → ℕ → ℕ → List ℕ → Type 0
IsRefusalResponse kept refusal moment nonce bytes =
    (signal : Signal) × IsErrorSignalOf refusal.code refusal.about moment nonce signal × Carries kept (message.Signal signal) bytes
