-- A response in the stream (RFC 9112, sections 4 and 6).
use Rattle.std.specs.Prelude.{ℕ, ◌⊎◌, List, []}
use Rattle.httparse.specs.Grammar.{ResponseHead, ReadsResponse}
use Rattle.as4_http.specs.Bodies.{BeginsBody}
use Rattle.as4_http.specs.Limits.{Limits, the_limits}
use Rattle.as4_http.specs.Refused.{MayBecome}
use Rattle.as4_http.specs.ResponseStarts.{IsSmallResponse, EndsInResponseHead, SaysResponse}
use Rattle.as4_http.specs.declared.framing.Framing.{Framing}
use Rattle.as4_http.specs.declared.message.Response.{Response}
use Rattle.as4_http.specs.declared.response_start.ResponseStart.{ResponseStart}

-- what the head of this response says
abbrev pub start_of : Response → Framing → ResponseStart
start_of response framing = record { status = response.status; media = response.media; framing = framing }

-- the stream is this response, its head and its body within these limits, and then the rest
pub record BeginsResponseWithin (limits : Limits) (stream : List ℕ) (response : Response) (rest : List ℕ) : Type 0 where
  pub head : ResponseHead
  pub framing : Framing
  pub behind : List ℕ
  pub reads : ReadsResponse stream head behind
  pub small : IsSmallResponse limits head
  pub says : SaysResponse head (start_of response framing)
  pub body : BeginsBody limits framing behind response.body rest

-- the stream begins with no response within these limits
abbrev pub HasNoResponseWithin : Limits → List ℕ → Type 0
HasNoResponseWithin limits stream = (response : Response) (rest : List ℕ) → ¬ (BeginsResponseWithin limits stream response rest)

-- the same of the limits that are kept
abbrev pub BeginsResponse : List ℕ → Response → List ℕ → Type 0
BeginsResponse stream response rest = BeginsResponseWithin the_limits stream response rest

abbrev pub HasNoResponse : List ℕ → Type 0
HasNoResponse stream = HasNoResponseWithin the_limits stream

-- the stream begins with no response, whatever the limits
abbrev pub IsNoResponse : List ℕ → Type 0
IsNoResponse stream = (limits : Limits) → HasNoResponseWithin limits stream

-- the stream ends inside a head, or more bytes make it a response within the limits
abbrev pub IsCutResponse : List ℕ → Type 0
IsCutResponse stream = EndsInResponseHead stream ⊎ MayBecome (λ bytes. (response : Response) × BeginsResponse bytes response []) stream
