-- Which limit a message passes that is too long (RFC 9112, sections 2 to 7). The bytes before the limit are right: a head
-- by its grammar, whatever its fields say, and the bytes after a head by what it says.
use Rattle.std.specs.Prelude.{◌≡◌, ℕ, ◌+◌, ◌<◌, ◌≤◌, List, [], ◌++◌, length, Option, All}
use Rattle.std.specs.List.{flat_map}
use Rattle.as4_flow.specs.Flow.{before}
use Rattle.httparse.specs.Grammar.{MayBecomeRequest, MayBecomeResponse, LineEnd, Field, print_section, ReadsSection, ChunkLine, print_chunk_line, ReadsChunkLine, chunk_size}
use Rattle.httparse.specs.Spans.{RequestExceeds, ResponseExceeds}
use Rattle.as4_http.specs.Chunks.{Chunk, print_chunk, joined, IsChunk, IsShortChunk}
use Rattle.as4_http.specs.Limits.{the_limits}
use Rattle.as4_http.specs.RequestStarts.{BeginsRequestHead}
use Rattle.as4_http.specs.ResponseStarts.{BeginsResponseHead}
use Rattle.as4_http.specs.declared.framing.Framing.{Framing}
use Rattle.as4_http.specs.declared.framing.Framing.TheVariants.{Empty, Counted, Chunked, ToEnd}
use Rattle.as4_http.specs.declared.request_start.RequestStart.{RequestStart}
use Rattle.as4_http.specs.declared.response_start.ResponseStart.{ResponseStart}

-- bytes were read off a stream, and P holds of them
pub record Shows (P : List ℕ → Type 0) (told left : Option (List ℕ)) : Type 0 where
  pub read : List ℕ
  pub taken : told ≡ before read left
  pub holds : P read

-- the bytes begin with a prefix of a head, and the prefix is longer than a head may be
pub record IsLongHead (MayBecome : List ℕ → Type 0) (bytes : List ℕ) : Type 0 where
  pub front : List ℕ
  pub rest : List ℕ
  pub parts : bytes ≡ front ++ rest
  pub right : MayBecome front
  pub long : the_limits.head < length front

-- the bytes begin with a prefix of a part, and each part that begins with that prefix is over a limit
pub record GoesOver {Part : Type 0} (Reads : List ℕ → Part → List ℕ → Type 0) (IsOver : Part → Type 0) (bytes : List ℕ) : Type 0 where
  pub front : List ℕ
  pub rest : List ℕ
  pub parts : bytes ≡ front ++ rest
  pub right : (more : List ℕ) × (part : Part) × Reads (front ++ more) part []
  pub over : (more : List ℕ) (part : Part) (behind : List ℕ) → Reads (front ++ more) part behind → IsOver part

-- the line before a chunk is longer than one may be
abbrev pub IsLongLine : ChunkLine → Type 0
IsLongLine line = the_limits.line < length (print_chunk_line line)

-- it says more bytes than the body has room for, with `passed` bytes before them
abbrev pub IsLargeChunk : ℕ → ChunkLine → Type 0
IsLargeChunk passed line = the_limits.body < passed + chunk_size line

-- the bytes are trailers, that is their field lines and the empty line, and then the rest
abbrev pub ReadsTrailers : List ℕ → List Field × LineEnd → List ℕ → Type 0
ReadsTrailers bytes trailers rest = ReadsSection bytes trailers.0 trailers.1 rest

-- with `passed` bytes before them, the trailers are longer than they may be
abbrev pub IsLongTrailers : ℕ → List Field × LineEnd → Type 0
IsLongTrailers passed trailers = the_limits.trailers < passed + length (print_section trailers.0 trailers.1)

-- the bytes after chunks of `passed` bytes pass a limit
pub data PassesNext (passed : ℕ) (bytes : List ℕ) : Type 0 where
  -- in the line before a chunk
  long_line : GoesOver ReadsChunkLine IsLongLine bytes → PassesNext passed bytes
  -- by the chunk that this line begins
  large_chunk : GoesOver ReadsChunkLine (IsLargeChunk passed) bytes → PassesNext passed bytes
  -- in the trailers, after the line that says 0
  long_trailers : (last : ChunkLine) (behind : List ℕ) → ReadsChunkLine bytes last behind → chunk_size last ≡ 0 → GoesOver ReadsTrailers (IsLongTrailers 0) behind → PassesNext passed bytes

-- the bytes after chunks that are whole and within the limits pass one
pub record PassesChunked (bytes : List ℕ) : Type 0 where
  pub chunks : List Chunk
  pub valid : All IsChunk chunks
  pub short : All (IsShortChunk the_limits) chunks
  pub within : length (joined chunks) ≤ the_limits.body
  pub behind : List ℕ
  pub parts : bytes ≡ flat_map print_chunk chunks ++ behind
  pub passes : PassesNext (length (joined chunks)) behind

-- the bytes of a body that is framed so pass a limit
abbrev pub PassesBody : Framing → List ℕ → Type 0
PassesBody Empty bytes = ⊥
PassesBody (Counted n) bytes = the_limits.body < n
PassesBody Chunked bytes = PassesChunked bytes
PassesBody ToEnd bytes = the_limits.body < length bytes

-- the bytes of a message pass a limit
pub data Passes (MayBecome : List ℕ → Type 0) (Exceeds : ℕ → List ℕ → Type 0) (Frames : List ℕ → List ℕ → Framing → Type 0) (bytes : List ℕ) : Type 0 where
  -- in its head
  long_head : IsLongHead MayBecome bytes → Passes MayBecome Exceeds Frames bytes
  -- by the fields of its head
  many_fields : Exceeds the_limits.fields bytes → Passes MayBecome Exceeds Frames bytes
  -- in its body, after a head that is whole and within the limits
  long_body : (framing : Framing) (behind : List ℕ) → Frames bytes behind framing → PassesBody framing behind → Passes MayBecome Exceeds Frames bytes

-- the bytes are the head of a request within the limits, which frames its body so, followed by the rest
abbrev pub FramesRequest : List ℕ → List ℕ → Framing → Type 0
FramesRequest bytes behind framing = (start : RequestStart) × BeginsRequestHead the_limits bytes behind start × (start.framing ≡ framing)

-- the same of a response
abbrev pub FramesResponse : List ℕ → List ℕ → Framing → Type 0
FramesResponse bytes behind framing = (start : ResponseStart) × BeginsResponseHead the_limits bytes behind start × (start.framing ≡ framing)

abbrev pub PassesRequest : List ℕ → Type 0
PassesRequest bytes = Passes MayBecomeRequest RequestExceeds FramesRequest bytes

abbrev pub PassesResponse : List ℕ → Type 0
PassesResponse bytes = Passes MayBecomeResponse ResponseExceeds FramesResponse bytes
