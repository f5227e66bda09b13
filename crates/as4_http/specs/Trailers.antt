-- The trailers after the last chunk (RFC 9112, section 7.1.2), line by line.
use Rattle.std.specs.Prelude.{◌≡◌, ◌≢◌, ℕ, ◌+◌, ◌<◌, ◌≤◌, Bool, true, false, List, [], ◌∷◌, ◌++◌, length, drop, Option, All}
use Rattle.as4_flow.specs.Flow.{before}
use Rattle.httparse.specs.Grammar.{LineEnd, print_end, Field, print_field, IsField, print_section, ReadsSection}
use Rattle.as4_http.specs.Limits.{Limits}
use Rattle.as4_http.specs.declared.limits.TheConstants.{MAX_TRAILERS}

-- no byte is an LF
unfoldable pub HasNoLf : List ℕ → Type 0
HasNoLf bytes = All (λ b. b ≢ 10) bytes

-- the bytes begin with a line of n bytes, its LF among them
pub record BeginsWithLine (bytes : List ℕ) (n : ℕ) : Type 0 where
  pub text : List ℕ
  pub one : HasNoLf text
  pub count : length text + 1 ≡ n
  pub parts : bytes ≡ text ++ 10 ∷ drop n bytes

-- the bytes are one line
pub record IsLine (line : List ℕ) : Type 0 where
  pub text : List ℕ
  pub one : HasNoLf text
  pub whole : line ≡ text ++ 10 ∷ []

-- the line is the empty one, or a field line
abbrev pub EndsTrailers : List ℕ → Bool → Type 0
EndsTrailers line true = (end : LineEnd) × (line ≡ print_end end)
EndsTrailers line false = (field : Field) × IsField field × (line ≡ print_field field)

-- no trailers begin with the line
abbrev pub BeginsNoLine : List ℕ → Type 0
BeginsNoLine line = (more : List ℕ) (fields : List Field) (last : LineEnd) (rest : List ℕ) → ¬ (ReadsSection (line ++ more) fields last rest)

-- trailers within the limit were taken off a stream, and nothing else
pub record TakesTrailers (old new : Option (List ℕ)) : Type 0 where
  pub fields : List Field
  pub last : LineEnd
  pub valid : All IsField fields
  pub small : length (print_section fields last) ≤ MAX_TRAILERS
  pub taken : old ≡ before (print_section fields last) new

-- the bytes begin with no trailers that are within the limit, with `passed` bytes before them
abbrev pub HasNoTrailers : ℕ → Limits → List ℕ → Type 0
HasNoTrailers passed limits bytes = (fields : List Field) (last : LineEnd) (rest : List ℕ) → ReadsSection bytes fields last rest → limits.trailers < passed + length (print_section fields last)

-- trailers that begin with these bytes have at least n more
abbrev pub LeavesMissing : List ℕ → ℕ → Type 0
LeavesMissing line n = (more : List ℕ) (fields : List Field) (last : LineEnd) (rest : List ℕ) → ReadsSection (line ++ more) fields last rest → length line + n ≤ length (print_section fields last)

-- the bytes are trailers, and within the limit with `passed` bytes before them
pub record AreTrailers (passed : ℕ) (bytes : List ℕ) : Type 0 where
  pub fields : List Field
  pub last : LineEnd
  pub reads : ReadsSection bytes fields last []
  pub small : passed + length bytes ≤ MAX_TRAILERS

-- n more bytes make these trailers
abbrev pub MissesOnly : List ℕ → ℕ → Type 0
MissesOnly line n = (more : List ℕ) × (fields : List Field) × (last : LineEnd) × (length more ≡ n) × ReadsSection (line ++ more) fields last []
