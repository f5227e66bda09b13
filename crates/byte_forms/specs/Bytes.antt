-- Values in bytes. Numbers are big endian.
use Rattle.std.specs.Prelude.{ℕ, zero, suc, ◌/◌, ◌%◌, List, [], ◌∷◌, ◌++◌, Option, Some, None, length}
use Rattle.std.specs.List.{flat_map}

-- a number in n bytes
unfoldable pub number_body : ℕ → ℕ → List ℕ
number_body zero n = []
number_body (suc places) n = number_body places (n / 256) ++ n % 256 ∷ []

-- the length of bytes, and then the bytes
unfoldable pub text_body : List ℕ → List ℕ
text_body bytes = number_body 4 (length bytes) ++ bytes

-- 0, or 1 and then the value
abbrev pub option_body : {X : Type 0} → (X → List ℕ) → Option X → List ℕ
option_body body None = 0 ∷ []
option_body body (Some x) = 1 ∷ body x

-- the count of items, and then the items
abbrev pub list_body : {X : Type 0} → (X → List ℕ) → List X → List ℕ
list_body body xs = number_body 4 (length xs) ++ flat_map body xs

-- one value and another
abbrev pub pair_body : {X Y : Type 0} → (X → List ℕ) → (Y → List ℕ) → X × Y → List ℕ
pair_body body behind pair = body pair.0 ++ behind pair.1

-- bytes and the byte that ends them
abbrev pub ended_body : ℕ → List ℕ → List ℕ
ended_body end bytes = bytes ++ end ∷ []

-- the same bytes for each value
abbrev pub literal_body : {X : Type 0} → List ℕ → X → List ℕ
literal_body bytes x = bytes
