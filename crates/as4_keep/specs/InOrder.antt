-- What the requests of a connection add up to that were answered in full, in their order.
use Rattle.std.specs.Prelude.{◌≡◌, ◌+◌, ℕ, suc, Bool, true, List, [], ◌∷◌, ◌++◌, Option, Some, None, length}
use Rattle.std.specs.List.{AllByRecursion, flat_map}
use Rattle.as4_doors.specs.Asking.{IsRefusedBy}
use Rattle.as4_doors.specs.Responses.{IsRefusalResponse, IsResponse, connection}
use Rattle.as4_doors.specs.declared.door.DoorKind.{DoorKind}
use Rattle.as4_flow.specs.declared.clock.Clock.{Ghosts as ClockMeaning}
use Rattle.as4_flow.specs.declared.nonces.Nonces.{Ghosts as NoncesMeaning}
use Rattle.as4_flow.specs.Flow.{Told, appended}
use Rattle.as4_http.specs.Requests.{BeginsRequest}
use Rattle.as4_http.specs.Written.{response_text}
use Rattle.as4_http.specs.declared.message.Request.{Request}
use Rattle.as4_message.specs.declared.received.Refusal.{Refusal}
use Rattle.office.specs.declared.call.Call.{Call}
use Rattle.office.specs.declared.call.Call.TheVariants.{Done, Folded, Stop}
use Rattle.sessions.specs.Sessions.{IsEventOf}
use Rattle.as4_keep.specs.Connections.{Moment}

-- a request that was answered: the moment and the nonce that were drawn for it, the call that it made, and its response
pub record Answer : Type 0 where
  pub request : Request
  pub moment : ℕ
  pub nonce : ℕ
  pub call : Option Call
  pub response : List ℕ
  -- whether the response says that the connection goes on
  pub kept : Bool

-- The call has the event that the request asks for, and the response is that of its reply. A request that made no call is
-- refused, with the error signal as response.
abbrev pub AnswersBy : Option Call → DoorKind → Answer → Type 0
AnswersBy (Some (Done event reply)) door a =
    IsEventOf door a.request a.moment a.nonce event × IsResponse a.kept reply a.response
AnswersBy (Some (Folded size)) door a = ⊥
AnswersBy (Some (Stop event counts)) door a = ⊥
AnswersBy None door a =
    (refusal : Refusal) × IsRefusedBy door a.request refusal × IsRefusalResponse a.kept refusal a.moment a.nonce a.response

-- a response with this `Connection` field
abbrev pub SaysConnection : Bool → List ℕ → Type 0
SaysConnection kept bytes =
    (status : ℕ) × (media : Option (List ℕ)) × (body : List ℕ) × (bytes ≡ response_text status media (connection kept) body)

abbrev pub IsAnswered : DoorKind → Answer → Type 0
IsAnswered door a = AnswersBy a.call door a × SaysConnection a.kept a.response

abbrev pub IsKept : Answer → Type 0
IsKept a = a.kept ≡ true

-- the stream is these requests, one after another, and then the rest
abbrev pub BeginsAll : List Answer → List ℕ → List ℕ → Type 0
BeginsAll [] stream rest = stream ≡ rest
BeginsAll (a ∷ answers) stream rest =
    (middle : List ℕ) × BeginsRequest stream a.request middle × BeginsAll answers middle rest

-- the calls that they made
abbrev pub call_of : Option Call → List Call
call_of None = []
call_of (Some call) = call ∷ []

abbrev pub calls_of : List Answer → List Call
calls_of answers = flat_map (λ a. call_of a.call) answers

-- the responses, one after another
abbrev pub responses_of : List Answer → List ℕ
responses_of answers = flat_map (λ a. a.response) answers

-- these calls are among those, in this order
abbrev pub AreAmong : List Call → List Call → Type 0
AreAmong [] all = Unit {0}
AreAmong (call ∷ calls) all =
    (before : List Call) × (after : List Call) × (all ≡ before ++ call ∷ after) × AreAmong calls after

-- each moment and each nonce is the one that was to come in its turn, where clock and nonces are observable
abbrev pub AreDrawn : (ℕ → Option ℕ) → (ℕ → Option ℕ) → ℕ → List Answer → Type 0
AreDrawn moments nonces k [] = Unit {0}
AreDrawn moments nonces k (a ∷ answers) =
    Told (moments k) (λ told. a.moment ≡ told) × Told (nonces k) (λ told. a.nonce ≡ told)
    × AreDrawn moments nonces (suc k) answers

module _ {C N : Type 0} (T : ClockMeaning C) (R : NoncesMeaning N) (door : DoorKind) where
  -- These requests were answered in this order. The calls that the pass has seen go on with theirs, among the calls of
  -- others, and the share counts theirs.
  pub record AnswersInOrder (answers : List Answer) (old new : Moment C N) : Type 0 where
    pub answered : AllByRecursion (IsAnswered door) answers
    pub stream : Told old.flow.left (λ stream. Told new.flow.left (λ rest. BeginsAll answers stream rest))
    pub written : new.flow.taken ≡ appended old.flow.taken (responses_of answers)
    pub calls : List Call
    pub list : new.caller.pass.list ≡ old.caller.pass.list ++ calls
    pub made : AreAmong (calls_of answers) calls
    pub share : new.caller.pass.share ≡ old.caller.pass.share + length (calls_of answers)
    pub drawn : AreDrawn (T.to_come old.caller.clock) (R.to_come old.caller.nonces) 0 answers
