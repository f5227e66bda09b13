-- How large the parts of a message are at most.
use Rattle.std.specs.Prelude.{ℕ}
use Rattle.as4_http.specs.declared.limits.TheConstants.{MAX_HEAD, MAX_FIELDS, MAX_CHUNK_LINE, MAX_TRAILERS, MAX_BODY}

pub record Limits : Type 0 where
  -- bytes of a head, and fields in it
  pub head : ℕ
  pub fields : ℕ
  -- bytes of the line before a chunk
  pub line : ℕ
  -- bytes of the trailers
  pub trailers : ℕ
  -- bytes of a body
  pub body : ℕ

-- those that are kept
abbrev pub the_limits : Limits
the_limits = record { head = MAX_HEAD; fields = MAX_FIELDS; line = MAX_CHUNK_LINE; trailers = MAX_TRAILERS; body = MAX_BODY }
