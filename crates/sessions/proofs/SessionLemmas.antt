-- How a session ends, put together from what its calls ensure.
use Rattle.std.proofs.Common.{◌≡◌, ◌⊎◌, ℕ, Bool, false, List, [], Option, Some, None, refl, sym, ap, subst, inl, inr}
use Rattle.as4_flow.specs.Flow.{Rose, Streams, Told, before, between, flow}
use Rattle.as4_http.specs.Passed.{PassesRequest, Shows}
use Rattle.as4_http.specs.Refused.{Dooms, OnRefusal}
use Rattle.as4_http.specs.RequestStarts.{DecidesRequestHead}
use Rattle.as4_http.specs.Requests.{HasNoRequest, IsCutRequest, IsNoRequest}
use Rattle.as4_http.specs.declared.message.Request.{Request}
use Rattle.as4_http.specs.declared.refusal.HttpRefusal.{HttpRefusal}
use Rattle.as4_http.specs.declared.refusal.HttpRefusal.TheVariants as http
use Rattle.as4_message.specs.declared.received.Refusal.{Refusal}
use Rattle.as4_doors.specs.Asking.{IsRefusedBy}
use Rattle.as4_doors.specs.Responses.{IsRefusalResponse}
use Rattle.as4_doors.specs.declared.door.DoorKind.{DoorKind}
use Rattle.exchange_model.specs.declared.event.Event.{Event}
use Rattle.sessions.specs.Sessions.{Ends, IsWhyUnread, ReadsNone, ReadsOne, Refuses, Replies, TurnsAway, Writes}
use Rattle.sessions.specs.declared.ended.Ended.{Ended}
use Rattle.sessions.specs.declared.ended.Ended.TheVariants as ended

-- an intake that holds nothing stands before what is left
pub nothing_held : (held : List ℕ) (left : Option (List ℕ)) → held ≡ [] → before held left ≡ left
nothing_held held None none = refl
nothing_held held (Some bytes) none = ap (λ (h : List ℕ). before h (Some bytes)) none

-- a refused request is turned away
pub refused_away : (door : DoorKind) (request : Request) (kept : Bool) (moment nonce : ℕ) (refusal : Refusal) (end : Ended) (bytes : List ℕ)
    → IsRefusedBy door request refusal → Refuses refusal kept moment nonce end bytes → TurnsAway door request kept moment nonce end bytes
refused_away door request kept moment nonce refusal (ended.Refused by) bytes refused refuses = (
  subst (λ (r : Refusal). IsRefusedBy door request r) (sym refuses.0) refused,
  subst (λ (r : Refusal). IsRefusalResponse kept r moment nonce bytes) (sym refuses.0) refuses.1,
)
refused_away door request kept moment nonce refusal ended.NoMemory bytes refused refuses = refuses
refused_away door request kept moment nonce refusal ended.Answered bytes refused refuses = absurd refuses
refused_away door request kept moment nonce refusal ended.Cut bytes refused refuses = absurd refuses
refused_away door request kept moment nonce refusal ended.Bad bytes refused refuses = absurd refuses
refused_away door request kept moment nonce refusal ended.TooLong bytes refused refuses = absurd refuses
refused_away door request kept moment nonce refusal ended.ReadFault bytes refused refuses = absurd refuses
refused_away door request kept moment nonce refusal ended.WriteFault bytes refused refuses = absurd refuses
refused_away door request kept moment nonce refusal (ended.DiskFault a b) bytes refused refuses = absurd refuses
refused_away door request kept moment nonce refusal (ended.Stopped a b) bytes refused refuses = absurd refuses
refused_away door request kept moment nonce refusal (ended.Full a b) bytes refused refuses = absurd refuses
refused_away door request kept moment nonce refusal ended.Worn bytes refused refuses = absurd refuses

-- why no request was read
pub why_unread : (refusal : HttpRefusal) (left rest taken later : Option (List ℕ)) (reads later_reads writes later_writes : ℕ) (none : List ℕ)
    → none ≡ []
    → OnRefusal refusal (Told (before none left) HasNoRequest)
    → (refusal ≡ http.Cut → Told (before none left) IsCutRequest)
    → (refusal ≡ http.Cut → Told rest (λ bytes. bytes ≡ []))
    → (refusal ≡ http.Bad → Dooms IsNoRequest (before none left) rest)
    → (refusal ≡ http.Bad → Shows DecidesRequestHead (before none left) rest)
    → (refusal ≡ http.TooLong → Dooms HasNoRequest (before none left) rest)
    → (refusal ≡ http.TooLong → Shows PassesRequest (before none left) rest)
    → (refusal ≡ http.ReadFault → Rose reads later_reads)
    → IsWhyUnread refusal (between (flow left taken reads writes) (flow rest later later_reads later_writes))
why_unread http.Cut left rest taken later reads later_reads writes later_writes none nothing only begun cut bad head long passed fault =
    let same = nothing_held none left nothing in (
      subst (λ (told : Option (List ℕ)). Told told HasNoRequest) same only,
      subst (λ (told : Option (List ℕ)). Told told IsCutRequest) same (begun refl),
      cut refl,
    )
why_unread http.Bad left rest taken later reads later_reads writes later_writes none nothing only begun cut bad head long passed fault =
    let same = nothing_held none left nothing in (
      subst (λ (told : Option (List ℕ)). Dooms IsNoRequest told rest) same (bad refl),
      subst (λ (told : Option (List ℕ)). Shows DecidesRequestHead told rest) same (head refl),
    )
why_unread http.TooLong left rest taken later reads later_reads writes later_writes none nothing only begun cut bad head long passed fault =
    let same = nothing_held none left nothing in (
      subst (λ (told : Option (List ℕ)). Dooms HasNoRequest told rest) same (long refl),
      subst (λ (told : Option (List ℕ)). Shows PassesRequest told rest) same (passed refl),
    )
why_unread http.ReadFault left rest taken later reads later_reads writes later_writes none nothing only begun cut bad head long passed fault = fault refl
why_unread http.NoMemory left rest taken later reads later_reads writes later_writes none nothing only begun cut bad head long passed fault = tt

module _ {Answered : Bool → Event → Ended → List ℕ → Type 0} {Untouched : Type 0} {Drawn : ℕ → ℕ → Type 0} {Undrawn : Type 0} where
  -- a request was read, and was answered or turned away
  pub served : (door : DoorKind) (streams : Streams) (request : Request) (moment nonce : ℕ) (would end : Ended) (bytes text : List ℕ) → text ≡ bytes
      → ReadsOne streams request → Drawn moment nonce → Replies Answered Untouched door request false moment nonce would bytes → Writes would text end streams
      → Ends Answered Untouched Drawn Undrawn door streams end
  served door streams request moment nonce would end bytes text same read drawn replies writes = record {
    would = would;
    bytes = bytes;
    serves = inl (record { request = request; read = read; moment = moment; nonce = nonce; drawn = drawn; replies = replies });
    writes = subst (λ (b : List ℕ). Writes would b end streams) same writes;
  }

  -- no request was read
  pub unread : (door : DoorKind) (streams : Streams) (would end : Ended) (bytes : List ℕ) → ReadsNone streams would bytes → Undrawn → Untouched
      → Writes would bytes end streams → Ends Answered Untouched Drawn Undrawn door streams end
  unread door streams would end bytes none undrawn untouched writes =
      record { would = would; bytes = bytes; serves = inr (none, undrawn, untouched); writes = writes }
