-- HTTP streams, and what each begins with: a request, a part of one, or neither (RFC 9112).
use Rattle.std.specs.Prelude.{◌≡◌, ◌⊎◌, ℕ, ◌+◌, ◌≤◌, ◌==◌, ◌||◌, List, [], ◌++◌, Bool, codes, length}
use Rattle.std.specs.Fmt.{decimal}
use Rattle.std.specs.List.{count_by}
use Rattle.byte_forms.specs.Cuts.{skip}
use Rattle.as4_http.specs.Limits.{the_limits}
use Rattle.as4_http.specs.Methods.{method_text}
use Rattle.as4_http.specs.Refused.{MayBecome}
use Rattle.as4_http.specs.RequestStarts.{EndsInRequestHead}
use Rattle.as4_http.specs.Requests.{BeginsRequest, HasNoRequest}
use Rattle.as4_http.specs.declared.message.Request.{Request}
use Rattle.conformance.specs.Ran.{IsVerdict}
use Rattle.conformance.specs.declared.exchange.Exchange.{Exchange}

-- a byte of a line's end
abbrev pub is_line_end : ℕ → Bool
is_line_end b = b == 13 || b == 10

-- how many lines have ended, the empty ones before the first other line left aside
abbrev pub ended_lines : List ℕ → ℕ
ended_lines bytes = count_by (λ b. b == 10) (skip is_line_end bytes)

-- the stream ends inside a head that is within the limits so far: of its lines, the request line and the field lines have
-- ended at most
pub record EndsInHead (stream : List ℕ) : Type 0 where
  pub head : EndsInRequestHead stream
  pub fields : ended_lines stream ≤ the_limits.fields + 1

-- the stream is a proper prefix of a request: it ends inside a head, or more bytes make it a request within the limits
abbrev pub IsCut : List ℕ → Type 0
IsCut stream = EndsInHead stream ⊎ MayBecome (λ bytes. (request : Request) × BeginsRequest bytes request []) stream

-- the line of a request: its method, and how long its body is
abbrev pub request_line : Request → List ℕ
request_line request = codes "request " ++ method_text request.method ++ codes " " ++ decimal (length request.body) ++ codes "\n"

-- the line of a stream
abbrev pub IsStreamLine : List ℕ → List ℕ → Type 0
IsStreamLine stream line =
    ((request : Request) × (rest : List ℕ) × BeginsRequest stream request rest × (line ≡ request_line request))
    ⊎ (HasNoRequest stream × IsCut stream × (line ≡ codes "cut\n"))
    ⊎ (HasNoRequest stream × (¬ IsCut stream) × (line ≡ codes "refused\n"))

-- the line of an exchange: whether its stream has the line that is wanted
abbrev pub IsExchangeLine : Exchange → List ℕ → Bool → Type 0
IsExchangeLine exchange line differs = IsVerdict (IsStreamLine exchange.stream.now exchange.want.now) exchange.name.now line differs
