-- The bytes of a pattern, one after another.
use Rattle.std.proofs.Common.{◌≡◌, ℕ, ◌+◌, ◌%◌, ◌∷◌, [], ◌++◌, map, arith}
use Rattle.std.specs.List.{range_with_len}
use Rattle.std.proofs.lemmas.List.FromFn.{map-range_with_len_more}

pub pattern_more : (place : ℕ) → map (λ i. i % 251) (range_with_len 0 (place + 1)) ≡ map (λ i. i % 251) (range_with_len 0 place) ++ (place % 251) ∷ []
pattern_more place = map-range_with_len_more (λ i. i % 251) 0 place place (omega arith)
