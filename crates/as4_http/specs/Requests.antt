-- A request in the stream (RFC 9112, sections 3 and 6).
use Rattle.std.specs.Prelude.{ℕ, ◌⊎◌, Bool, List, []}
use Rattle.httparse.specs.Grammar.{RequestHead, ReadsRequest}
use Rattle.as4_http.specs.Bodies.{BeginsBody}
use Rattle.as4_http.specs.Limits.{Limits, the_limits}
use Rattle.as4_http.specs.Refused.{MayBecome}
use Rattle.as4_http.specs.RequestStarts.{IsSmallRequest, EndsInRequestHead, SaysRequest}
use Rattle.as4_http.specs.declared.framing.Framing.{Framing}
use Rattle.as4_http.specs.declared.message.Request.{Request}
use Rattle.as4_http.specs.declared.request_start.RequestStart.{RequestStart}

-- what the head of this request says
abbrev pub start_of : Request → Framing → Bool → RequestStart
start_of request framing kept = record { method = request.method; target = request.target; media = request.media; framing = framing; kept = kept }

-- the stream is this request, its head and its body within these limits, followed by the rest; and whether a further
-- request may follow on its connection
pub record BeginsKeptWithin (limits : Limits) (stream : List ℕ) (request : Request) (kept : Bool) (rest : List ℕ) : Type 0 where
  pub head : RequestHead
  pub framing : Framing
  pub behind : List ℕ
  pub reads : ReadsRequest stream head behind
  pub small : IsSmallRequest limits head
  pub says : SaysRequest head (start_of request framing kept)
  pub body : BeginsBody limits framing behind request.body rest

-- the same, whether or not one may follow
abbrev pub BeginsRequestWithin : Limits → List ℕ → Request → List ℕ → Type 0
BeginsRequestWithin limits stream request rest = (kept : Bool) × BeginsKeptWithin limits stream request kept rest

-- the stream begins with no request within these limits
abbrev pub HasNoRequestWithin : Limits → List ℕ → Type 0
HasNoRequestWithin limits stream = (request : Request) (rest : List ℕ) → ¬ (BeginsRequestWithin limits stream request rest)

-- the same of the limits that are kept
abbrev pub BeginsKept : List ℕ → Request → Bool → List ℕ → Type 0
BeginsKept stream request kept rest = BeginsKeptWithin the_limits stream request kept rest

abbrev pub BeginsRequest : List ℕ → Request → List ℕ → Type 0
BeginsRequest stream request rest = BeginsRequestWithin the_limits stream request rest

abbrev pub HasNoRequest : List ℕ → Type 0
HasNoRequest stream = HasNoRequestWithin the_limits stream

-- the stream begins with no request, whatever the limits
abbrev pub IsNoRequest : List ℕ → Type 0
IsNoRequest stream = (limits : Limits) → HasNoRequestWithin limits stream

-- the stream ends inside a head, or more bytes make it a request within the limits
abbrev pub IsCutRequest : List ℕ → Type 0
IsCutRequest stream = EndsInRequestHead stream ⊎ MayBecome (λ bytes. (request : Request) × BeginsRequest bytes request []) stream
