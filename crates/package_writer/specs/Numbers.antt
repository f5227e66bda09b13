-- The numbers of the boundaries that occur in bytes.
use Rattle.std.specs.Prelude.{ℕ, zero, suc, ◌+◌, ◌-◌, ◌*◌, List, [], ◌∷◌, ◌++◌, ◌&&◌, ◌≡◌, ◌<◌, nat_le, if◌then◌else◌, Option, Some, None, option_map, bytes_eq, codes}
use Rattle.std.specs.Option.{option_to_list}
use Rattle.std.specs.List.{Contains, flat_map}
use Rattle.as4_values.specs.declared.payload.Payload.{Payload}
use Rattle.byte_forms.specs.Cuts.{◌>>=◌, strip_prefix}
use Rattle.byte_forms.specs.Digits.{digit_value}

-- a number with these digits so far and n more to read, and the rest
unfoldable pub number_from : ℕ → ℕ → List ℕ → Option (ℕ × List ℕ)
number_from n zero bytes = Some (n, bytes)
number_from n (suc places) [] = None
number_from n (suc places) (b ∷ bytes) = digit_value b >>= λ digit. number_from (n * 16 + digit) places bytes

-- a boundary after its two hyphens, and the rest
unfoldable pub number_at : List ℕ → Option (ℕ × List ℕ)
number_at bytes = strip_prefix (codes "--as4-") bytes >>= number_from 0 16

-- the numbers of all boundaries that occur in the bytes
unfoldable pub numbers_in : List ℕ → List ℕ
numbers_in [] = []
numbers_in (b ∷ bytes) = option_to_list (option_map (λ found. found.0) (number_at (b ∷ bytes))) ++ numbers_in bytes

-- the number of the root whose Content-ID this is
unfoldable pub root_number : List ℕ → Option ℕ
root_number cid = do
  rest ← strip_prefix (codes "root-") cid
  found ← number_from 0 16 rest
  if bytes_eq found.1 (codes "@as4") then Some found.0 else None

-- the numbers that a payload excludes
unfoldable pub payload_numbers : Payload → List ℕ
payload_numbers payload = numbers_in payload.content ++ option_to_list (root_number payload.cid)

-- the numbers that are excluded for a package
unfoldable pub taken : List ℕ → List Payload → List ℕ
taken root payloads = numbers_in root ++ flat_map payload_numbers payloads

-- the least number other than these
pub record IsLeastWithout (n : ℕ) (numbers : List ℕ) : Type 0 where
  pub free : ¬ (Contains numbers n)
  pub least : (m : ℕ) → m < n → Contains numbers m
