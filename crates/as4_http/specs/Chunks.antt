-- A body in chunks (RFC 9112, section 7.1).
use Rattle.std.specs.Prelude.{◌≡◌, ◌≢◌, ℕ, ◌<◌, ◌≤◌, List, [], ◌∷◌, ◌++◌, length, Option, All}
use Rattle.std.specs.List.{flat_map}
use Rattle.as4_flow.specs.Flow.{before}
use Rattle.httparse.specs.Grammar.{LineEnd, Field, IsField, print_section, ChunkLine, IsChunkLine, print_chunk_line, chunk_size}
use Rattle.as4_http.specs.ChunkLines.{IsShortLine}
use Rattle.as4_http.specs.Limits.{Limits, the_limits}

pub record Chunk : Type 0 where
  pub line : ChunkLine
  pub bytes : List ℕ

-- the line, the bytes and CRLF
abbrev pub print_chunk : Chunk → List ℕ
print_chunk chunk = print_chunk_line chunk.line ++ (chunk.bytes ++ 13 ∷ 10 ∷ [])

-- there is a byte, and the line says how many there are
pub record IsChunk (chunk : Chunk) : Type 0 where
  pub line : IsChunkLine chunk.line
  pub some : 0 < length chunk.bytes
  pub size : chunk_size chunk.line ≡ length chunk.bytes

abbrev pub IsShortChunk : Limits → Chunk → Type 0
IsShortChunk limits chunk = IsShortLine limits chunk.line

-- the chunks, the line after the last, and the trailers
pub record ChunkedBody : Type 0 where
  pub chunks : List Chunk
  pub last : ChunkLine
  pub trailers : List Field
  pub end : LineEnd

abbrev pub print_end_of_chunks : ChunkedBody → List ℕ
print_end_of_chunks body = print_chunk_line body.last ++ print_section body.trailers body.end

unfoldable pub print_chunked : ChunkedBody → List ℕ
print_chunked body = flat_map print_chunk body.chunks ++ print_end_of_chunks body

-- the chunks joined
abbrev pub joined : List Chunk → List ℕ
joined chunks = flat_map (λ chunk. chunk.bytes) chunks

-- each part is of its class, and the line after the last chunk says 0
pub record IsChunked (body : ChunkedBody) : Type 0 where
  pub chunks : All IsChunk body.chunks
  pub last : IsChunkLine body.last
  pub none : chunk_size body.last ≡ 0
  pub trailers : All IsField body.trailers

-- each part is within its limit
pub record IsSmallChunked (limits : Limits) (body : ChunkedBody) : Type 0 where
  pub lines : All (IsShortChunk limits) body.chunks
  pub last : IsShortLine limits body.last
  pub trailers : length (print_section body.trailers body.end) ≤ limits.trailers
  pub bytes : length (joined body.chunks) ≤ limits.body

-- such a body within the limits was taken off a stream, and nothing else; these are its bytes
pub record TakesChunked (bytes : List ℕ) (old new : Option (List ℕ)) : Type 0 where
  pub body : ChunkedBody
  pub valid : IsChunked body
  pub small : IsSmallChunked the_limits body
  pub joins : bytes ≡ joined body.chunks
  pub taken : old ≡ before (print_chunked body) new

-- the stream doesn't begin with such a body
abbrev pub HasNoChunked : Limits → List ℕ → Type 0
HasNoChunked limits stream = (body : ChunkedBody) (rest : List ℕ) → IsChunked body → IsSmallChunked limits body → stream ≢ print_chunked body ++ rest

-- bytes of this number and CRLF were taken off a stream, and the bytes were appended to those before
pub record TakesChunk (size : ℕ) (bytes more : List ℕ) (old new : Option (List ℕ)) : Type 0 where
  pub piece : List ℕ
  pub count : length piece ≡ size
  pub held : more ≡ bytes ++ piece
  pub taken : old ≡ before (piece ++ 13 ∷ 10 ∷ []) new

-- the stream doesn't begin with bytes of this number and CRLF
abbrev pub HasNoChunk : ℕ → List ℕ → Type 0
HasNoChunk size stream = (piece rest : List ℕ) → length piece ≡ size → stream ≢ piece ++ 13 ∷ 10 ∷ rest

-- the stream is such a body within the limits
pub record IsWholeChunked (stream : List ℕ) : Type 0 where
  pub body : ChunkedBody
  pub valid : IsChunked body
  pub small : IsSmallChunked the_limits body
  pub is : stream ≡ print_chunked body

-- the stream is bytes of this number and CRLF
abbrev pub IsWholeChunk : ℕ → List ℕ → Type 0
IsWholeChunk size stream = (piece : List ℕ) × (length piece ≡ size) × (stream ≡ piece ++ 13 ∷ 10 ∷ [])
