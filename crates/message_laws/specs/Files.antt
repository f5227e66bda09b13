-- Media texts that fit into a message file.
use Rattle.std.specs.Prelude.{◌≡◌, ℕ, List, Bool, true, ◌==◌, not}
use Rattle.std.specs.List.{list_all}

-- a byte that isn't CR
abbrev pub is_no_cr : ℕ → Bool
is_no_cr b = not (b == 13)

abbrev pub HasNoCr : List ℕ → Type 0
HasNoCr bytes = list_all is_no_cr bytes ≡ true
