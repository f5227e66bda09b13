-- Pieces of a source that are appended to bytes that were held.
use Rattle.std.specs.Prelude.{◌≡◌, ℕ, ◌<◌, List, ◌++◌, length, Option}
use Rattle.as4_flow.specs.Flow.{before}

-- a piece of n bytes came from the source, and was appended to the bytes that were held
pub record Came (n : ℕ) (old new : List ℕ) (left rest : Option (List ℕ)) : Type 0 where
  pub piece : List ℕ
  pub count : length piece ≡ n
  pub held : new ≡ old ++ piece
  pub taken : left ≡ before piece rest

-- the bytes are fewer than n
abbrev pub IsShorter : ℕ → List ℕ → Type 0
IsShorter n bytes = length bytes < n
