-- Rows of values by name.
use Rattle.std.specs.Prelude.{◌≡◌, ◌⊎◌, ℕ, List, Option, None, Some, option_map, bytes_eq}
use Rattle.std.specs.List.{find}
use Rattle.as4_host.specs.declared.table.Row.{Row}

-- the value of the first row of this name
abbrev pub value_at : {T : Type 0} → List (Row T) → List ℕ → Option T
value_at rows name = option_map (λ row. row.value) (find (λ row. bytes_eq row.name name) rows)

-- the names that get a row have had none, and get this value
abbrev pub GetsRow : {T : Type 0} → T → (List ℕ → Option T) → (List ℕ → Option T) → Type 0
GetsRow value old new = (name : List ℕ) → (new name ≡ old name) ⊎ ((old name ≡ None) × (new name ≡ Some value))
