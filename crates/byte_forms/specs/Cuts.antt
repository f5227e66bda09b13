-- What is cut off the front of bytes, and the rest.
use Rattle.std.specs.Prelude.{ℕ, List, Bool, ◌==◌, if◌then◌else◌, Option, Some, None, length, drop, nat_eq}
use Rattle.std.specs.List.{prefix_len, take_while, starts_with}

-- what the second cuts off after the first, where both cut something off
infixl 10 ◌>>=◌
abbrev pub ◌>>=◌ : {A B : Type 0} → Option A → (A → Option B) → Option B
None >>= f = None
(Some x) >>= f = f x

-- what follows the longest run of bytes of a class
abbrev pub skip : (ℕ → Bool) → List ℕ → List ℕ
skip class bytes = drop (prefix_len class bytes) bytes

-- such a run of at least one byte, and what follows it
unfoldable pub run_at : (ℕ → Bool) → List ℕ → Option (List ℕ × List ℕ)
run_at class bytes = if prefix_len class bytes == 0 then None else Some (take_while class bytes, skip class bytes)

-- what follows a prefix, where the bytes begin with it
unfoldable pub strip_prefix : List ℕ → List ℕ → Option (List ℕ)
strip_prefix word bytes = if starts_with nat_eq bytes word then Some (drop (length word) bytes) else None
