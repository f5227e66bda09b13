-- Bytes without a delimiter.
use Rattle.std.proofs.Common.{◌≡◌, ℕ, List, [], ◌++◌, ◌⊎◌, Some, None, ap, inl, inr}
use Rattle.mime_fields.specs.Fields.{crlf}
use Rattle.mime_package.specs.Reading.{Ending, last, next, delimiter_at, ending_at}
use Rattle.mime_package.specs.Pieces.{IsDelimiter, IsLastDelimiter, Holds, GoesOn, IsPiece}
use Rattle.mime_package.proofs.LineLemmas.{NoCr, IsLine, delimiter_line, last_line, delimiter_taken, delimiter_again, last_taken, last_again, delimiter_not_last, ending_last, ending_next, is_last, is_next}
use Rattle.mime_package.proofs.WindowLemmas.{front_begins, Finds, NoneIn, free_from_none, none_from_free}

-- each delimiter is found, and what is found is a delimiter
pub delimiters_found : (boundary : List ℕ) → NoCr boundary → Finds (IsDelimiter boundary) (delimiter_at boundary)
delimiters_found boundary no_cr = record {
  lines = λ line is. delimiter_line boundary line no_cr is;
  taken = λ bytes rest is. let taken = delimiter_taken boundary bytes rest is in (taken.0, rest, taken.1, inr taken.2, taken.3);
  again = λ line rest is goes none. let found = delimiter_again boundary line rest is goes in absurd cc;
}

-- a delimiter or the last one
abbrev IsEnding : List ℕ → List ℕ → Type 0
IsEnding boundary line = IsDelimiter boundary line ⊎ IsLastDelimiter boundary line

-- the end of a part is such a line
ending_taken : (boundary bytes : List ℕ) (x : Ending) → ending_at boundary bytes ≡ Some x → (line : List ℕ) × (rest : List ℕ) × IsEnding boundary line × ((rest ≡ []) ⊎ GoesOn rest) × (bytes ≡ line ++ rest)
ending_taken boundary bytes last is = let taken = last_taken boundary bytes (is_last boundary bytes is) in (taken.0, taken.1, inr taken.2, taken.3, taken.4)
ending_taken boundary bytes (next rest) is =
    let taken = delimiter_taken boundary bytes rest (is_next boundary bytes rest is) in
    (taken.0, rest, inl taken.1, inr taken.2, taken.3)

-- a delimiter ends a part
pub next_again : (boundary line rest : List ℕ) → IsDelimiter boundary line → GoesOn rest → ending_at boundary (line ++ rest) ≡ Some (next rest)
next_again boundary line rest is goes =
    ending_next boundary (line ++ rest) rest (delimiter_not_last boundary line rest is goes) (delimiter_again boundary line rest is goes)

-- such a line is found if a CRLF follows it
ending_again : (boundary line rest : List ℕ) → IsEnding boundary line → GoesOn rest → ending_at boundary (line ++ rest) ≡ None → ⊥
ending_again boundary line rest (inl is) goes none = let found = next_again boundary line rest is goes in cc
ending_again boundary line rest (inr is) goes none = let found = ending_last boundary (line ++ rest) (last_again boundary line rest is (inr goes)) in cc

-- only its first byte is a CR
ending_line : (boundary line : List ℕ) → NoCr boundary → IsEnding boundary line → IsLine line
ending_line boundary line no_cr (inl is) = delimiter_line boundary line no_cr is
ending_line boundary line no_cr (inr is) = last_line boundary line no_cr is

-- each end of a part is found, and what is found is one
endings_found : (boundary : List ℕ) → NoCr boundary → Finds (IsEnding boundary) (ending_at boundary)
endings_found boundary no_cr = record {
  lines = λ line is. ending_line boundary line no_cr is;
  taken = λ bytes x is. ending_taken boundary bytes x is;
  again = λ line rest is goes none. ending_again boundary line rest is goes none;
}

-- a line of one kind is a line of each wider kind
held_by : (is other : List ℕ → Type 0) (bytes : List ℕ) → ((line : List ℕ) → is line → other line) → Holds is bytes → Holds other bytes
held_by is other bytes kept holds = record {
  front = holds.front;
  line = holds.line;
  back = holds.back;
  is_line = kept holds.line holds.is_line;
  bytes_are = holds.bytes_are;
}

-- a line of either kind is of one of them
of_two : (is other : List ℕ → Type 0) (bytes front line back : List ℕ) → bytes ≡ front ++ (line ++ (crlf ++ back)) → is line ⊎ other line → Holds is bytes ⊎ Holds other bytes
of_two is other bytes front line back e (inl held) = inl (record { front = front; line = line; back = back; is_line = held; bytes_are = e })
of_two is other bytes front line back e (inr held) = inr (record { front = front; line = line; back = back; is_line = held; bytes_are = e })

-- a piece is the bytes before the first end of a part
pub piece_taken : (boundary piece more left : List ℕ) → NoCr boundary → piece ++ (crlf ++ more) ≡ crlf ++ left → NoneIn (ending_at boundary) piece (crlf ++ more) → IsPiece boundary piece
piece_taken boundary piece more left no_cr e none =
    let free = free_from_none (IsEnding boundary) (ending_at boundary) (endings_found boundary no_cr) piece more none in
    record {
      begins = front_begins piece more left e;
      whole = λ holds. free (held_by (IsDelimiter boundary) (IsEnding boundary) (piece ++ crlf) (λ line is. inl is) holds);
      not_last = λ holds. free (held_by (IsLastDelimiter boundary) (IsEnding boundary) (piece ++ crlf) (λ line is. inr is) holds);
    }

-- no part ends within a piece
pub piece_again : (boundary piece more : List ℕ) → NoCr boundary → IsPiece boundary piece → NoneIn (ending_at boundary) piece (crlf ++ more)
piece_again boundary piece more no_cr is = none_from_free (IsEnding boundary) (ending_at boundary) (endings_found boundary no_cr) piece more free
  where
    apart_from : Holds (IsDelimiter boundary) (piece ++ crlf) ⊎ Holds (IsLastDelimiter boundary) (piece ++ crlf) → ⊥
    apart_from (inl holds) = is.whole holds
    apart_from (inr holds) = is.not_last holds

    free : Holds (IsEnding boundary) (piece ++ crlf) → ⊥
    free holds = apart_from (of_two (IsDelimiter boundary) (IsLastDelimiter boundary) (piece ++ crlf) holds.front holds.line holds.back holds.bytes_are holds.is_line)

-- a line begins with a CRLF
pub line_begins : (line rest : List ℕ) (is : IsLine line) → line ++ rest ≡ crlf ++ (is.tail ++ rest)
line_begins line rest is = ap (λ (l : List ℕ). l ++ rest) is.is
