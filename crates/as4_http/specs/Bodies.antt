-- A body in the stream, as its head frames it (RFC 9112, section 6.3).
use Rattle.std.specs.Prelude.{◌≡◌, ℕ, ◌<◌, ◌≤◌, List, [], ◌++◌, length, Option}
use Rattle.as4_flow.specs.Flow.{Told, before}
use Rattle.as4_http.specs.Chunks.{ChunkedBody, print_chunked, joined, IsChunked, IsSmallChunked, TakesChunked}
use Rattle.as4_http.specs.declared.framing.Framing.{Framing}
use Rattle.as4_http.specs.declared.framing.Framing.TheVariants.{Empty, Counted, Chunked, ToEnd}
use Rattle.as4_http.specs.Limits.{Limits, the_limits}
use Rattle.as4_http.specs.declared.limits.TheConstants.{MAX_BODY}

-- the stream is chunks of these bytes within the limits, and then the rest
pub record BeginsChunked (limits : Limits) (stream bytes rest : List ℕ) : Type 0 where
  pub body : ChunkedBody
  pub valid : IsChunked body
  pub small : IsSmallChunked limits body
  pub joins : bytes ≡ joined body.chunks
  pub reads : stream ≡ print_chunked body ++ rest

-- the stream is a body of these bytes within the limits, and then the rest
abbrev pub BeginsBody : Limits → Framing → List ℕ → List ℕ → List ℕ → Type 0
BeginsBody limits Empty stream bytes rest = (bytes ≡ []) × (stream ≡ rest)
BeginsBody limits (Counted n) stream bytes rest = (length bytes ≡ n) × (n ≤ limits.body) × (stream ≡ bytes ++ rest)
BeginsBody limits Chunked stream bytes rest = BeginsChunked limits stream bytes rest
BeginsBody limits ToEnd stream bytes rest = (length bytes ≤ limits.body) × (stream ≡ bytes) × (rest ≡ [])

-- the stream doesn't begin with such a body
abbrev pub HasNoBody : Framing → Limits → List ℕ → Type 0
HasNoBody framing limits stream = (bytes rest : List ℕ) → ¬ (BeginsBody limits framing stream bytes rest)

-- the stream is such a body within the limits
abbrev pub IsBody : Framing → List ℕ → Type 0
IsBody framing stream = (bytes : List ℕ) × BeginsBody the_limits framing stream bytes []

-- a stream was taken to its end, within the limit; these are its bytes
pub record TakesRest (bytes : List ℕ) (old new : Option (List ℕ)) : Type 0 where
  pub small : length bytes ≤ MAX_BODY
  pub taken : old ≡ before bytes new
  pub ended : Told new (λ rest. rest ≡ [])

-- more bytes than a body has
abbrev pub IsLong : Limits → List ℕ → Type 0
IsLong limits bytes = limits.body < length bytes

-- a body within the limits was taken off a stream, and nothing else; these are its bytes
abbrev pub TakesBody : Framing → List ℕ → Option (List ℕ) → Option (List ℕ) → Type 0
TakesBody Empty bytes old new = (bytes ≡ []) × (old ≡ new)
TakesBody (Counted n) bytes old new = (length bytes ≡ n) × (n ≤ MAX_BODY) × (old ≡ before bytes new)
TakesBody Chunked bytes old new = TakesChunked bytes old new
TakesBody ToEnd bytes old new = TakesRest bytes old new
