-- The result of reading a key of a modes file, or several in order: a value, or the first fault.
use Rattle.std.specs.Prelude.{◌≡◌, ◌≢◌, ℕ, List, Option, Some, None, Result, Ok, Err}
use Rattle.toml.specs.Data.{Data, Members, get_member}
use Rattle.pmodes.specs.Values.{text_of}
use Rattle.pmodes.specs.declared.refusal.Key.{Key}
use Rattle.pmodes.specs.declared.fault.Fault.{Fault}
use Rattle.pmodes.specs.declared.fault.Fault.TheVariants.{Missing, Range, NoMemory}

-- the first fault, else the result for the value
abbrev pub and_then : {A B E : Type 0} → Result A E → (A → Result B E) → Result B E
and_then (Ok a) next = next a
and_then (Err e) next = Err e

-- a value of the key, if it is in range
abbrev pub in_range : {A : Type 0} → Key → Option A → Result A Fault
in_range key None = Err (Range key)
in_range key (Some a) = Ok a

-- a required key, and how its value is read
abbrev pub needed : {A : Type 0} → Key → (Data → Option A) → Option Data → Result A Fault
needed key read None = Err (Missing key)
needed key read (Some d) = in_range key (read d)

-- an optional key
abbrev pub optional : {A : Type 0} → Key → (Data → Option A) → Option Data → Result (Option A) Fault
optional key read None = Ok None
optional key read (Some d) = and_then (in_range key (read d)) (λ a. Ok (Some a))

-- a required text, at a key of the table
unfoldable pub needed_text : Key → List ℕ → Members → Result (List ℕ) Fault
needed_text key name t = needed key text_of (get_member name t)

-- an optional text
unfoldable pub optional_text : Key → List ℕ → Members → Result (Option (List ℕ)) Fault
optional_text key name t = optional key text_of (get_member name t)

-- the fault is that of the result, unless it is out of memory
abbrev pub Refuses : {A : Type 0} → Result A Fault → Fault → Type 0
Refuses verdict e = e ≢ NoMemory → verdict ≡ Err e
