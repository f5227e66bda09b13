-- The steps of reading a package.
use Rattle.std.specs.Prelude.{ℕ, zero, suc, List, [], ◌∷◌, ◌++◌, Bool, false, Option, Some, None, option_map, bytes_eq, drop}
use Rattle.byte_forms.specs.Cuts.{◌>>=◌}
use Rattle.mime_fields.specs.Fields.{PartValue, part_of}
use Rattle.mime_package.specs.Reading.{PackageValue, Ending, ending_at, up_to}

-- the first part after a delimiter, and its end; the bytes begin with the delimiter's CRLF
unfoldable pub part_at : List ℕ → List ℕ → Option (PartValue × Ending)
part_at boundary bytes = do
  cut ← up_to (ending_at boundary) bytes
  part ← part_of (drop 2 cut.0)
  Some (part, cut.1)

-- appends that part to the parts so far
abbrev pub with_part : List PartValue → PartValue × Ending → List PartValue × Ending
with_part parts x = (parts ++ x.0 ∷ [], x.1)

-- whether the identifier is this one
abbrev pub is_id : List ℕ → Option (List ℕ) → Bool
is_id id None = false
is_id id (Some own) = bytes_eq own id

-- the item at this index of a list, and the others before and after it
unfoldable pub taken_out : {X : Type 0} → ℕ → List X → Option (X × List X)
taken_out at [] = None
taken_out zero (x ∷ xs) = Some (x, xs)
taken_out (suc at) (x ∷ xs) = option_map (λ found. (found.0, x ∷ found.1)) (taken_out at xs)

abbrev pub taken_at : {X : Type 0} → Option ℕ → List X → Option (X × List X)
taken_at None xs = None
taken_at (Some at) xs = taken_out at xs

-- the package whose root is at this index; an empty package if no part is there
unfoldable pub package_at : ℕ → List PartValue → PackageValue
package_at at parts = elim (taken_out at parts) [
  | None ↦ record { root = []; parts = [] }
  | Some found ↦ record { root = found.0.content; parts = found.1 }
]
