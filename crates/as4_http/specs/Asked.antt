-- How far a source is read.
use Rattle.std.specs.Prelude.{◌≡◌, ℕ, ◌+◌, ◌≤◌, ◌⊎◌, List, [], ◌++◌, length, Option}
use Rattle.as4_flow.specs.Flow.{before}
use Rattle.as4_http.specs.Bodies.{HasNoBody}
use Rattle.as4_http.specs.Limits.{the_limits}
use Rattle.as4_http.specs.Passed.{FramesResponse}
use Rattle.as4_http.specs.Responses.{HasNoResponse}
use Rattle.as4_http.specs.declared.framing.Framing.{Framing}
use Rattle.as4_http.specs.declared.framing.Framing.TheVariants.{ToEnd}
use Rattle.as4_http.specs.declared.limits.TheConstants.{MAX_PIECE}

-- The source gave a prefix and then one piece, and nothing else. The bytes that were held and the prefix made nothing
-- whole yet, and the piece is within its limit; or the source gave nothing.
pub record AsksOnlyAsNeeded (HasNone : List ℕ → Type 0) (held : List ℕ) (old new : Option (List ℕ)) : Type 0 where
  pub prefix : List ℕ
  pub piece : List ℕ
  pub given : old ≡ before (prefix ++ piece) new
  pub short : length piece ≤ MAX_PIECE
  pub needed : (prefix ++ piece ≡ []) ⊎ HasNone (held ++ prefix)

-- the source gave these bytes, and nothing else; with those that were held, they are one more than a body may have at most
pub record GivesToLimit (held : List ℕ) (old new : Option (List ℕ)) : Type 0 where
  pub bytes : List ℕ
  pub given : old ≡ before bytes new
  pub within : length (held ++ bytes) ≤ the_limits.body + 1

-- of a body that is framed so; one that runs to the end of the stream is read until it passes its limit
abbrev pub AsksForBody : Framing → List ℕ → Option (List ℕ) → Option (List ℕ) → Type 0
AsksForBody framing held old new = AsksOnlyAsNeeded (HasNoBody framing the_limits) held old new ⊎ ((framing ≡ ToEnd) × GivesToLimit held old new)

-- the source gave these bytes, and nothing else; with those that were held, they are the head of a response whose body
-- runs to the end of the stream, and of that body one byte more than it may have at most
pub record GivesToEnd (held : List ℕ) (old new : Option (List ℕ)) : Type 0 where
  pub bytes : List ℕ
  pub body : List ℕ
  pub given : old ≡ before bytes new
  pub head : FramesResponse (held ++ bytes) body ToEnd
  pub within : length body ≤ the_limits.body + 1

-- of a response: as far as it needs, or its body runs to the end of the stream
abbrev pub AsksForResponse : List ℕ → Option (List ℕ) → Option (List ℕ) → Type 0
AsksForResponse held old new = AsksOnlyAsNeeded HasNoResponse held old new ⊎ GivesToEnd held old new
