-- A request that asks for an event is handled.
use Rattle.std.proofs.Common.{◌≡◌, ◌⊎◌, ℕ, Bool, false, List, [], ◌++◌, Option, Some, None, refl, sym, ap, subst, ◌∙◌, inl, inr, is_some}
use Rattle.as4_flow.specs.Flow.{Rose, Streams, Told, before}
use Rattle.as4_http.specs.Limits.{the_limits}
use Rattle.as4_http.specs.Refused.{Dooms}
use Rattle.as4_http.specs.Requests.{BeginsRequest, HasNoRequest, IsNoRequest}
use Rattle.as4_http.specs.declared.message.Request.{Request}
use Rattle.as4_http.specs.declared.refusal.HttpRefusal.{HttpRefusal}
use Rattle.as4_http.specs.declared.refusal.HttpRefusal.TheVariants as http
use Rattle.as4_message.specs.declared.received.Refusal.{Refusal}
use Rattle.as4_doors.specs.Asking.{AsksFor, IsRefusedBy, IsStranger}
use Rattle.as4_doors.specs.declared.door.DoorKind.{DoorKind}
use Rattle.exchange_model.specs.declared.event.Event.{Event}
use Rattle.exchange_model.specs.declared.what.What.{What}
use Rattle.sessions.specs.Sessions.{Ends, IsEventOf, IsHandled, IsWhyUnread, ReadsNone, Replies, Serves, TurnsAway, WasHandled, ended_unread}
use Rattle.sessions.specs.declared.ended.Ended.{Ended}
use Rattle.sessions.specs.declared.ended.Ended.TheVariants as ended

-- bytes that were read, and those that are left, are the whole stream
whole_stream : (stream read : List ℕ) (rest : Option (List ℕ)) → Some stream ≡ before read rest → (left : List ℕ) × (rest ≡ Some left) × (stream ≡ read ++ left)
whole_stream stream read None same = absurd cc
whole_stream stream read (Some left) same = (left, refl, cc)

-- where bytes are doomed, the stream that they begin has no request
doomed_stream : (P : List ℕ → Type 0) (stream : List ℕ) (rest : Option (List ℕ)) → Dooms P (Some stream) rest → P stream
doomed_stream P stream rest dooms =
    let whole = whole_stream stream dooms.read rest dooms.taken in
    subst P (sym whole.2) (dooms.doomed whole.0)

-- the stream begins with the request that was read
begun : (stream : List ℕ) (held : List ℕ) (rest : Option (List ℕ)) (request : Request) → is_some rest ≡ is_some (Some stream)
    → Told (before held rest) (BeginsRequest stream request) → (later : List ℕ) × BeginsRequest stream request later
begun stream held None request tells told = absurd cc
begun stream held (Some left) request tells told = (held ++ left, told (held ++ left) refl)

-- a request that asks for something isn't turned away, but for memory
not_turned_away : (strangers : (door : DoorKind) (request : Request) (what : What) → IsStranger door request → ¬ (AsksFor door request what))
    → (refused : (door : DoorKind) (request : Request) (refusal : Refusal) (what : What) → IsRefusedBy door request refusal → ¬ (AsksFor door request what))
    → (door : DoorKind) (request : Request) (moment nonce : ℕ) (what : What) (would : Ended) (bytes : List ℕ)
    → TurnsAway door request false moment nonce would bytes → AsksFor door request what → would ≡ ended.NoMemory
not_turned_away strangers refused door request moment nonce what ended.Bad bytes turned asks = absurd (strangers door request what turned.0 asks)
not_turned_away strangers refused door request moment nonce what (ended.Refused by) bytes turned asks = absurd (refused door request by what turned.0 asks)
not_turned_away strangers refused door request moment nonce what ended.NoMemory bytes turned asks = refl
not_turned_away strangers refused door request moment nonce what ended.Answered bytes turned asks = absurd turned
not_turned_away strangers refused door request moment nonce what ended.Cut bytes turned asks = absurd turned
not_turned_away strangers refused door request moment nonce what ended.TooLong bytes turned asks = absurd turned
not_turned_away strangers refused door request moment nonce what ended.ReadFault bytes turned asks = absurd turned
not_turned_away strangers refused door request moment nonce what ended.WriteFault bytes turned asks = absurd turned
not_turned_away strangers refused door request moment nonce what (ended.DiskFault a b) bytes turned asks = absurd turned
not_turned_away strangers refused door request moment nonce what (ended.Stopped a b) bytes turned asks = absurd turned
not_turned_away strangers refused door request moment nonce what (ended.Full a b) bytes turned asks = absurd turned
not_turned_away strangers refused door request moment nonce what ended.Worn bytes turned asks = absurd turned

-- a stream that begins with a request is read
not_unread : (door : DoorKind) (streams : Streams) (stream rest : List ℕ) (request : Request) (refusal : HttpRefusal) (would : Ended) (bytes : List ℕ)
    → streams.left ≡ Some stream → BeginsRequest stream request rest → would ≡ ended_unread refusal → IsWhyUnread refusal streams
    → (would ≡ ended.NoMemory) ⊎ ((would ≡ ended.ReadFault) × Rose streams.read_faults streams.later_read_faults)
not_unread door streams stream rest request http.Cut would bytes told begins is why = absurd (why.0 stream told request rest begins)
not_unread door streams stream rest request http.Bad would bytes told begins is why =
    absurd (doomed_stream IsNoRequest stream streams.rest (subst (λ (t : Option (List ℕ)). Dooms IsNoRequest t streams.rest) told why.0) the_limits request rest begins)
not_unread door streams stream rest request http.TooLong would bytes told begins is why =
    absurd (doomed_stream HasNoRequest stream streams.rest (subst (λ (t : Option (List ℕ)). Dooms HasNoRequest t streams.rest) told why.0) request rest begins)
not_unread door streams stream rest request http.ReadFault would bytes told begins is why = inr (is, why)
not_unread door streams stream rest request http.NoMemory would bytes told begins is why = inl is

module _ (Answered : Bool → Event → Ended → List ℕ → Type 0) (Untouched : Type 0) (Drawn : ℕ → ℕ → Type 0)
    (one : (stream : List ℕ) (a b : Request) (r q : List ℕ) → BeginsRequest stream a r → BeginsRequest stream b q → a ≡ b)
    (strangers : (door : DoorKind) (request : Request) (what : What) → IsStranger door request → ¬ (AsksFor door request what))
    (refused : (door : DoorKind) (request : Request) (refusal : Refusal) (what : What) → IsRefusedBy door request refusal → ¬ (AsksFor door request what)) where
  -- the session of a request that asks for something
  replied : (door : DoorKind) (streams : Streams) (request : Request) (what : What) (moment nonce : ℕ) (would : Ended) (bytes : List ℕ)
      → Drawn moment nonce → AsksFor door request what → Replies Answered Untouched door request false moment nonce would bytes
      → WasHandled Answered Drawn door request streams would bytes
  replied door streams request what moment nonce would bytes drawn asks (inl (event, is, answered)) = inl (event, moment, nonce, drawn, is, answered)
  replied door streams request what moment nonce would bytes drawn asks (inr (turned, untouched)) =
      inr (inl (not_turned_away strangers refused door request moment nonce what would bytes turned asks))

module _ (Answered : Bool → Event → Ended → List ℕ → Type 0) (Untouched : Type 0) (Drawn : ℕ → ℕ → Type 0) (Undrawn : Type 0)
    (one : (stream : List ℕ) (a b : Request) (r q : List ℕ) → BeginsRequest stream a r → BeginsRequest stream b q → a ≡ b)
    (strangers : (door : DoorKind) (request : Request) (what : What) → IsStranger door request → ¬ (AsksFor door request what))
    (refused : (door : DoorKind) (request : Request) (refusal : Refusal) (what : What) → IsRefusedBy door request refusal → ¬ (AsksFor door request what)) where
  serving : (door : DoorKind) (streams : Streams) (stream rest : List ℕ) (request : Request) (what : What) (would : Ended) (bytes : List ℕ)
      → is_some streams.rest ≡ is_some streams.left → streams.left ≡ Some stream → BeginsRequest stream request rest → AsksFor door request what
      → Serves Answered Untouched Drawn Undrawn door streams would bytes → WasHandled Answered Drawn door request streams would bytes
  serving door streams stream rest request what would bytes tells told begins asks serves =
      let first = begun stream serves.read.held streams.rest serves.request (tells ∙ ap is_some told) (serves.read.begins stream told) in
      let same : serves.request ≡ request = one stream serves.request request first.0 rest first.1 begins in
      replied Answered Untouched Drawn one strangers refused door streams request what serves.moment serves.nonce would bytes serves.drawn asks
      (subst (λ (r : Request). Replies Answered Untouched door r false serves.moment serves.nonce would bytes) same serves.replies)

  ending : (door : DoorKind) (streams : Streams) (stream rest : List ℕ) (request : Request) (what : What) (would : Ended) (bytes : List ℕ)
      → is_some streams.rest ≡ is_some streams.left → streams.left ≡ Some stream → BeginsRequest stream request rest → AsksFor door request what
      → Serves Answered Untouched Drawn Undrawn door streams would bytes ⊎ (ReadsNone streams would bytes × Undrawn × Untouched)
      → WasHandled Answered Drawn door request streams would bytes
  ending door streams stream rest request what would bytes tells told begins asks (inl serves) =
      serving door streams stream rest request what would bytes tells told begins asks serves
  ending door streams stream rest request what would bytes tells told begins asks (inr none) =
      inr (not_unread door streams stream rest request none.0.refusal would bytes told begins none.0.ended none.0.why)

  pub is_handled : (door : DoorKind) (streams : Streams) (end : Ended) (stream rest : List ℕ) (request : Request) (what : What)
      → Ends Answered Untouched Drawn Undrawn door streams end → is_some streams.rest ≡ is_some streams.left → streams.left ≡ Some stream
      → BeginsRequest stream request rest → AsksFor door request what → IsHandled Answered Drawn door request streams end
  is_handled door streams end stream rest request what ends tells told begins asks = record {
    would = ends.would;
    bytes = ends.bytes;
    writes = ends.writes;
    handled = ending door streams stream rest request what ends.would ends.bytes tells told begins asks ends.serves;
  }
