-- The escaping loop advances by one byte.
use Rattle.std.proofs.Common.{◌≡◌, ℕ, ◌+◌, ◌<◌, ◌≤◌, List, [], ◌∷◌, ◌++◌, length, take, arith, refl, ap, sym, ◌∙◌, append_assoc, append-nil, ◌-◌}
use Rattle.std.specs.Prelude.{slice_index, slice_range}
use Rattle.std.specs.List.{flat_map}
use Rattle.std.proofs.lemmas.List.{flat_map_more, take_more}
use Rattle.std.proofs.lemmas.List.Edits.{between_more}
use Rattle.as4_envelope.specs.Markup.{escape_of, escaped}

-- one more byte is escaped
escaped_more : (front bytes : List ℕ) (at : ℕ) → at < length bytes → (front ++ escaped (take at bytes)) ++ escape_of (slice_index bytes at) ≡ front ++ escaped (take (at + 1) bytes)
unfolding escaped
escaped_more front bytes at within =
    flat_map_more escape_of front (take at bytes) (slice_index bytes at) ∙ ap (λ xs. front ++ flat_map escape_of xs) (sym (take_more bytes at 0 within))

-- an unescaped byte is written later, with those before it
pub plain_step : (front out bytes : List ℕ) (done at : ℕ) → done ≤ at → at < length bytes → escape_of (slice_index bytes at) ≡ slice_index bytes at ∷ [] → out ++ slice_range bytes done at ≡ front ++ escaped (take at bytes) → out ++ slice_range bytes done (at + 1) ≡ front ++ escaped (take (at + 1) bytes)
plain_step front out bytes done at below within plain so_far =
    let more : slice_range bytes done (at + 1) ≡ slice_range bytes done at ++ slice_index bytes at ∷ [] = between_more bytes done at 0 below within in
    rw (more, ← append_assoc, so_far, ← plain) (escaped_more front bytes at within)

-- an escaped byte is written after those before it
pub escape_step : (front out bytes : List ℕ) (done at : ℕ) → done ≤ at → at < length bytes → out ++ slice_range bytes done at ≡ front ++ escaped (take at bytes) → ((out ++ slice_range bytes done at) ++ escape_of (slice_index bytes at)) ++ slice_range bytes (at + 1) (at + 1) ≡ front ++ escaped (take (at + 1) bytes)
escape_step front out bytes done at below within so_far =
    let none : (at + 1) - (at + 1) ≡ 0 = omega arith in
    rw (none, append-nil, so_far) (escaped_more front bytes at within)

-- nothing is written yet
pub escape_start : (front bytes : List ℕ) → front ++ slice_range bytes 0 0 ≡ front ++ escaped (take 0 bytes)
unfolding escaped
escape_start front bytes = refl
