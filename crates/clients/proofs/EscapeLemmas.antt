-- The loop that escapes bytes goes on by one byte.
use Rattle.std.proofs.Common.{◌≡◌, ℕ, ◌+◌, ◌<◌, List, ◌++◌, length, take, ap, sym, ◌∙◌, append-nil}
use Rattle.std.specs.Prelude.{slice_index}
use Rattle.std.specs.List.{flat_map}
use Rattle.std.proofs.lemmas.List.{flat_map_more, take_more}
use Rattle.clients.specs.Requests.{escape_of, escaped}

-- one more byte is escaped
pub escaped_more : (front bytes : List ℕ) (at : ℕ) → at < length bytes
    → (front ++ escaped (take at bytes)) ++ escape_of (slice_index bytes at) ≡ front ++ escaped (take (at + 1) bytes)
unfolding escaped
escaped_more front bytes at within =
    flat_map_more escape_of front (take at bytes) (slice_index bytes at) ∙ ap (λ xs. front ++ flat_map escape_of xs) (sym (take_more bytes at 0 within))

-- nothing is written yet
pub escaped_none : (front bytes : List ℕ) → front ≡ front ++ escaped (take 0 bytes)
unfolding escaped
escaped_none front bytes = sym (append-nil front)
