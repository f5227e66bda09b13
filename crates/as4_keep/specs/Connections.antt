-- What a connection is that is kept: its requests are answered one after another.
use Rattle.std.specs.Prelude.{◌≡◌, ◌≢◌, ◌⊎◌, ◌&&◌, ◌==◌, ℕ, zero, suc, Bool, true, false, not, List, [], is_some}
use Rattle.as4_disk.specs.declared.disk.Disk.{Ghosts as DiskMeaning}
use Rattle.as4_doors.specs.declared.door.DoorKind.{DoorKind}
use Rattle.as4_flow.specs.declared.clock.Clock.{Ghosts as ClockMeaning}
use Rattle.as4_flow.specs.declared.nonces.Nonces.{Ghosts as NoncesMeaning}
use Rattle.as4_flow.specs.Flow.{Flow, Told, appended, before, between}
use Rattle.as4_http.specs.Requests.{BeginsKept}
use Rattle.as4_http.specs.declared.message.Request.{Request}
use Rattle.office.specs.declared.call.Call.{Call}
use Rattle.pass_book.specs.States.{PassState}
use Rattle.sessions.specs.Sessions.{DrawsBoth, ReadsNone, Replies, Writes}
use Rattle.sessions.specs.Shared.{AnswersUnder}
use Rattle.sessions.specs.declared.ended.Ended.{Ended}
use Rattle.sessions.specs.declared.ended.Ended.TheVariants as ended
use Rattle.sessions.specs.declared.naming.Opening.{Ghosts as OpeningMeaning}
use Rattle.workers.specs.Guests.{Caller, caller}
use Rattle.as4_keep.specs.declared.keep_end.KeepEnd.{KeepEnd}
use Rattle.as4_keep.specs.declared.keep_end.KeepEnd.TheVariants.{Closed, Broken}

-- a request with this end was answered in full: the endpoint replied, or the message was refused
abbrev pub is_full : Ended → Bool
is_full ended.Answered = true
is_full (ended.Refused refusal) = true
is_full other = false

-- the number of requests that were begun: those that were answered in full, and the one that broke the connection
abbrev pub begun_of : KeepEnd → ℕ
begun_of (Closed served) = served
begun_of (Broken served end) = suc served

-- A connection at one moment: its caller's pass, clock and source of nonces; and its source and sink. What is left are
-- the bytes that were read past the last request, followed by those that the source has left.
pub record Moment (C N : Type 0) : Type 0 where
  pub caller : Caller C N
  pub flow : Flow

abbrev pub moment : {C N : Type 0} → PassState Call → C → N → Flow → Moment C N
moment pass clock nonces flow = record { caller = caller pass clock nonces; flow = flow }

-- the same moment, where these bytes were read past the last request
abbrev pub ahead : {C N : Type 0} → List ℕ → Moment C N → Moment C N
ahead held at = record at { flow = record at.flow { left = before held at.flow.left } }

module _ {D J C N : Type 0} (M : DiskMeaning D) (O : OpeningMeaning J) (T : ClockMeaning C) (R : NoncesMeaning N) (door : DoorKind) where
  -- a request was answered by this response: with a moment and a nonce that were drawn for it
  pub record Responds (request : Request) (goes_on : Bool) (old new : Caller C N) (end : Ended) (response : List ℕ) : Type 0 where
    pub moment : ℕ
    pub nonce : ℕ
    pub drawn : DrawsBoth T R old.clock new.clock old.nonces new.nonces moment nonce
    pub replies : Replies (AnswersUnder M O old.pass new.pass) (new.pass ≡ old.pass) door request goes_on moment nonce end response

  -- The next request of the stream was answered in full, and its response was written. The response says whether the
  -- connection goes on: it does if the request allows that, and isn't the last that may be served.
  pub record ServesRequest (is_last : Bool) (old new : Moment C N) (goes_on : Bool) : Type 0 where
    pub request : Request
    pub allows : Bool
    pub begins : Told old.flow.left (λ stream. Told new.flow.left (BeginsKept stream request allows))
    pub tells : is_some new.flow.left ≡ is_some old.flow.left
    pub goes : goes_on ≡ allows && not is_last
    pub end : Ended
    pub response : List ℕ
    pub responds : Responds request goes_on old.caller new.caller end response
    pub full : is_full end ≡ true
    pub written : new.flow.taken ≡ appended old.flow.taken response
    pub reads : new.flow.reads ≡ old.flow.reads
    pub writes : new.flow.writes ≡ old.flow.writes

  -- this number of requests, one after another, after each of which the connection goes on
  abbrev pub ServesRequests : ℕ → ℕ → Moment C N → Moment C N → Type 0
  ServesRequests limit zero old new = new ≡ old
  ServesRequests limit (suc n) old new =
      (middle : Moment C N) × ServesRequests limit n old middle × ServesRequest (suc n == limit) middle new true

  -- a request was read, and would end so, with this response
  pub record ReadsBroken (is_last : Bool) (old new : Moment C N) (would : Ended) (response : List ℕ) : Type 0 where
    pub request : Request
    pub allows : Bool
    pub held : List ℕ
    pub begins : Told old.flow.left (λ stream. Told (before held new.flow.left) (BeginsKept stream request allows))
    pub reads : new.flow.reads ≡ old.flow.reads
    pub responds : Responds request (allows && not is_last) old.caller new.caller would response

  -- no request was read; the stream ended inside one only if there was a byte of it
  pub record ReadsNoMore (old new : Moment C N) (would : Ended) (text : List ℕ) : Type 0 where
    pub none : ReadsNone (between old.flow new.flow) would text
    pub begun : would ≡ ended.Cut → Told old.flow.left (λ stream. stream ≢ [])
    pub same : new.caller ≡ old.caller

  -- The next request wasn't answered in full, or its response wasn't written whole. It ended as in a session of its own.
  pub record Breaks (is_last : Bool) (old new : Moment C N) (end : Ended) : Type 0 where
    pub would : Ended
    pub text : List ℕ
    pub cause : ReadsBroken is_last old new would text ⊎ ReadsNoMore old new would text
    pub writes : Writes would text end (between old.flow new.flow)
    pub broken : is_full end ≡ false

  -- the source ended where a request would begin
  pub record EndsBetween (limit served : ℕ) (old new : Moment C N) : Type 0 where
    pub middle : Moment C N
    pub serves : ServesRequests limit served old middle
    pub ended : Told middle.flow.left (λ bytes. bytes ≡ [])
    pub same : new ≡ middle

  -- the last request that was served closed the connection
  pub record EndsByLast (limit served : ℕ) (old new : Moment C N) : Type 0 where
    pub others : ℕ
    pub count : served ≡ suc others
    pub middle : Moment C N
    pub serves : ServesRequests limit others old middle
    pub held : List ℕ
    pub closes : ServesRequest (served == limit) middle (ahead held new) false

  -- a connection, by how it ended
  abbrev pub Keeps : ℕ → Moment C N → Moment C N → KeepEnd → Type 0
  Keeps limit old new (Closed served) = EndsBetween limit served old new ⊎ EndsByLast limit served old new
  Keeps limit old new (Broken served end) =
      (middle : Moment C N) × ServesRequests limit served old middle × Breaks (suc served == limit) middle new end
