-- The line before a chunk, and the CRLF after it (RFC 9112, section 7.1).
use Rattle.std.specs.Prelude.{◌≡◌, ◌≢◌, ℕ, ◌+◌, ◌<◌, ◌≤◌, ◌==◌, if◌then◌else◌, List, [], ◌∷◌, length, get_or, Option}
use Rattle.as4_flow.specs.Flow.{before}
use Rattle.httparse.specs.Grammar.{ChunkLine, IsChunkLine, print_chunk_line, ReadsChunkLine, chunk_size}
use Rattle.as4_http.specs.Limits.{Limits, the_limits}

-- the line is within the limit
abbrev pub IsShortLine : Limits → ChunkLine → Type 0
IsShortLine limits line = length (print_chunk_line line) ≤ limits.line

-- the bytes are a line within the limit that says this size, and then the rest
pub record BeginsLine (limits : Limits) (bytes rest : List ℕ) (size : ℕ) : Type 0 where
  pub line : ChunkLine
  pub reads : ReadsChunkLine bytes line rest
  pub short : IsShortLine limits line
  pub says : size ≡ chunk_size line

-- the bytes begin with no such line whose chunk leaves the body within its limit, with `passed` bytes before it
abbrev pub HasNoLine : ℕ → Limits → List ℕ → Type 0
HasNoLine passed limits bytes = (rest : List ℕ) (size : ℕ) → BeginsLine limits bytes rest size → limits.body < passed + size

-- the fewest bytes that end a line: its last byte may be the CR
abbrev pub shortest_end : List ℕ → List ℕ
shortest_end [] = 48 ∷ 13 ∷ 10 ∷ []
shortest_end (b ∷ bytes) = if get_or (b ∷ bytes) (length bytes) 0 == 13 then 10 ∷ [] else 13 ∷ 10 ∷ []

-- such a line was taken off a stream, and nothing else
pub record TakesLine (old new : Option (List ℕ)) (size : ℕ) : Type 0 where
  pub line : ChunkLine
  pub valid : IsChunkLine line
  pub short : IsShortLine the_limits line
  pub says : size ≡ chunk_size line
  pub taken : old ≡ before (print_chunk_line line) new

-- the bytes are a line within the limit, whose chunk leaves the body within its limit, with `passed` bytes before it
pub record IsWholeLine (passed : ℕ) (bytes : List ℕ) : Type 0 where
  pub line : ChunkLine
  pub valid : IsChunkLine line
  pub short : IsShortLine the_limits line
  pub room : passed + chunk_size line ≤ the_limits.body
  pub is : bytes ≡ print_chunk_line line

abbrev pub IsCrlf : List ℕ → Type 0
IsCrlf bytes = bytes ≡ 13 ∷ 10 ∷ []

-- the bytes don't begin with CRLF
abbrev pub HasNoCrlf : List ℕ → Type 0
HasNoCrlf bytes = (rest : List ℕ) → bytes ≢ 13 ∷ 10 ∷ rest
