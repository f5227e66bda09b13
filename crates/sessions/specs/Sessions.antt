-- What a session does with one request. How an event is answered is a parameter, so that the same definitions hold over
-- an office that was lent and over one under a lock.
use Rattle.std.specs.Prelude.{◌≡◌, ◌⊎◌, ℕ, Bool, false, List, [], Option}
use Rattle.as4_flow.specs.Draws.{Draws}
use Rattle.as4_flow.specs.declared.clock.Clock.{Ghosts as ClockMeaning}
use Rattle.as4_flow.specs.declared.nonces.Nonces.{Ghosts as NoncesMeaning}
use Rattle.as4_flow.specs.Flow.{Rose, Streams, TakesFront, Told, appended, before}
use Rattle.as4_http.specs.Passed.{PassesRequest, Shows}
use Rattle.as4_http.specs.Refused.{Dooms}
use Rattle.as4_http.specs.RequestStarts.{DecidesRequestHead}
use Rattle.as4_http.specs.Requests.{BeginsRequest, HasNoRequest, IsCutRequest, IsNoRequest}
use Rattle.as4_http.specs.declared.message.Request.{Request}
use Rattle.as4_http.specs.declared.refusal.HttpRefusal.{HttpRefusal}
use Rattle.as4_http.specs.declared.refusal.HttpRefusal.TheVariants as http
use Rattle.as4_message.specs.declared.received.Refusal.{Refusal}
use Rattle.as4_doors.specs.Asking.{AsksFor, IsRefusedBy, IsStranger}
use Rattle.as4_doors.specs.Responses.{IsRefusalResponse}
use Rattle.as4_doors.specs.WrittenText.{fixed_text}
use Rattle.as4_doors.specs.declared.door.DoorKind.{DoorKind}
use Rattle.as4_doors.specs.declared.written.Fixed.TheVariants.{BadRequest, TooLarge}
use Rattle.exchange_model.specs.declared.event.Event.{Event}
use Rattle.sessions.specs.Answering.{unavailable}
use Rattle.sessions.specs.declared.ended.Ended.{Ended}
use Rattle.sessions.specs.declared.ended.Ended.TheVariants as ended

-- the event that the request asks for at this door, with this moment and this nonce
pub record IsEventOf (door : DoorKind) (request : Request) (moment nonce : ℕ) (event : Event) : Type 0 where
  pub dated : event.stamp ≡ moment
  pub named : event.nonce ≡ nonce
  pub asked : AsksFor door request event.what

-- how a session ends whose message is refused, and its response
abbrev pub Refuses : Refusal → Bool → ℕ → ℕ → Ended → List ℕ → Type 0
Refuses refusal kept moment nonce (ended.Refused by) bytes =
    (by ≡ refusal) × IsRefusalResponse kept refusal moment nonce bytes
Refuses refusal kept moment nonce ended.NoMemory bytes = bytes ≡ unavailable
Refuses refusal kept moment nonce end bytes = ⊥

-- how a session ends whose request asks for no event, and its response
abbrev pub TurnsAway : DoorKind → Request → Bool → ℕ → ℕ → Ended → List ℕ → Type 0
TurnsAway door request kept moment nonce ended.Bad bytes = IsStranger door request × (bytes ≡ fixed_text BadRequest)
TurnsAway door request kept moment nonce (ended.Refused refusal) bytes =
    IsRefusedBy door request refusal × IsRefusalResponse kept refusal moment nonce bytes
TurnsAway door request kept moment nonce ended.NoMemory bytes = bytes ≡ unavailable
TurnsAway door request kept moment nonce end bytes = ⊥

-- a request was read from the source, and nothing is said of the bytes that came with it
pub record ReadsOne (streams : Streams) (request : Request) : Type 0 where
  pub held : List ℕ
  pub begins : Told streams.left (λ stream. Told (before held streams.rest) (BeginsRequest stream request))
  pub quiet : streams.later_read_faults ≡ streams.read_faults

-- how a session ends without a request, and what it writes
abbrev pub ended_unread : HttpRefusal → Ended
ended_unread http.Cut = ended.Cut
ended_unread http.Bad = ended.Bad
ended_unread http.TooLong = ended.TooLong
ended_unread http.ReadFault = ended.ReadFault
ended_unread http.NoMemory = ended.NoMemory

abbrev pub text_unread : HttpRefusal → List ℕ
text_unread http.Cut = []
text_unread http.Bad = fixed_text BadRequest
text_unread http.TooLong = fixed_text TooLarge
text_unread http.ReadFault = []
text_unread http.NoMemory = unavailable

-- why no request was read: the source ended inside one; however the bytes that were read go on, they are no request,
-- whatever the limits; they pass a limit; or the source failed
abbrev pub IsWhyUnread : HttpRefusal → Streams → Type 0
IsWhyUnread http.Cut streams =
    Told streams.left HasNoRequest × Told streams.left IsCutRequest × Told streams.rest (λ bytes. bytes ≡ [])
IsWhyUnread http.Bad streams =
    Dooms IsNoRequest streams.left streams.rest × Shows DecidesRequestHead streams.left streams.rest
IsWhyUnread http.TooLong streams =
    Dooms HasNoRequest streams.left streams.rest × Shows PassesRequest streams.left streams.rest
IsWhyUnread http.ReadFault streams = Rose streams.read_faults streams.later_read_faults
IsWhyUnread http.NoMemory streams = Unit {0}

-- no request was read
pub record ReadsNone (streams : Streams) (end : Ended) (bytes : List ℕ) : Type 0 where
  pub refusal : HttpRefusal
  pub ended : end ≡ ended_unread refusal
  pub written : bytes ≡ text_unread refusal
  pub why : IsWhyUnread refusal streams
  pub quiet : ¬ (refusal ≡ http.ReadFault) → streams.later_read_faults ≡ streams.read_faults

-- The bytes were written, and the session ends as it would. Or the sink failed after a prefix of them.
abbrev pub Writes : Ended → List ℕ → Ended → Streams → Type 0
Writes would bytes end streams =
    ((end ≡ would) × (streams.later ≡ appended streams.taken bytes) × (streams.later_write_faults ≡ streams.write_faults))
    ⊎ ((end ≡ ended.WriteFault) × TakesFront bytes streams.taken streams.later × Rose streams.write_faults streams.later_write_faults)

-- Answered: how an event is answered. Untouched: neither the office nor the pass was used.
module _ (Answered : Bool → Event → Ended → List ℕ → Type 0) (Untouched : Type 0) where
  -- how a session ends with a request, and its response
  abbrev pub Replies : DoorKind → Request → Bool → ℕ → ℕ → Ended → List ℕ → Type 0
  Replies door request kept moment nonce end bytes =
      ((event : Event) × IsEventOf door request moment nonce event × Answered kept event end bytes)
      ⊎ (TurnsAway door request kept moment nonce end bytes × Untouched)

  -- Drawn: the clock gave this moment and the source of nonces this nonce, once each. Undrawn: they weren't used.
  module _ (Drawn : ℕ → ℕ → Type 0) (Undrawn : Type 0) where
    -- a request was read, and then the moment and the nonce were drawn
    pub record Serves (door : DoorKind) (streams : Streams) (end : Ended) (bytes : List ℕ) : Type 0 where
      pub request : Request
      pub read : ReadsOne streams request
      pub moment : ℕ
      pub nonce : ℕ
      pub drawn : Drawn moment nonce
      pub replies : Replies door request false moment nonce end bytes

    -- how a session would end if its sink took all bytes, and its response
    abbrev pub WouldEnd : DoorKind → Streams → Ended → List ℕ → Type 0
    WouldEnd door streams end bytes =
        Serves door streams end bytes ⊎ (ReadsNone streams end bytes × Undrawn × Untouched)

    -- how a session ends
    pub record Ends (door : DoorKind) (streams : Streams) (end : Ended) : Type 0 where
      pub would : Ended
      pub bytes : List ℕ
      pub serves : WouldEnd door streams would bytes
      pub writes : Writes would bytes end streams

-- The event of a request was handled, unless memory ran out or the source failed.
abbrev pub WasHandled : (Bool → Event → Ended → List ℕ → Type 0) → (ℕ → ℕ → Type 0) → DoorKind → Request → Streams → Ended → List ℕ → Type 0
WasHandled Answered Drawn door request streams would bytes =
    ((event : Event) × (moment : ℕ) × (nonce : ℕ) × Drawn moment nonce × IsEventOf door request moment nonce event × Answered false event would bytes)
    ⊎ (would ≡ ended.NoMemory)
    ⊎ ((would ≡ ended.ReadFault) × Rose streams.read_faults streams.later_read_faults)

-- a session that handles the event of this request
pub record IsHandled (Answered : Bool → Event → Ended → List ℕ → Type 0) (Drawn : ℕ → ℕ → Type 0) (door : DoorKind) (request : Request) (streams : Streams) (end : Ended) : Type 0 where
  pub would : Ended
  pub bytes : List ℕ
  pub writes : Writes would bytes end streams
  pub handled : WasHandled Answered Drawn door request streams would bytes

-- a moment and a nonce were drawn, once each; they are the last that the clock and the source of nonces gave
pub record DrawsBoth {C N : Type 0} (T : ClockMeaning C) (R : NoncesMeaning N) (clock later_clock : C) (nonces later_nonces : N) (moment nonce : ℕ) : Type 0 where
  pub moment_is : moment ≡ T.last later_clock
  pub nonce_is : nonce ≡ R.last later_nonces
  pub from_clock : Draws moment (T.to_come clock) (T.to_come later_clock)
  pub from_nonces : Draws nonce (R.to_come nonces) (R.to_come later_nonces)

-- a session ends by the endpoint's reply, or because memory ran out
abbrev pub IsReplied : Ended → Type 0
IsReplied end = (end ≡ ended.Answered) ⊎ ((size : ℕ) × (need : ℕ) × (end ≡ ended.Full size need)) ⊎ (end ≡ ended.NoMemory)
