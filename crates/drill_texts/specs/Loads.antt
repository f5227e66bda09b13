-- The load of a message of a script.
use Rattle.std.specs.Prelude.{ℕ, ◌%◌, List, [], ◌∷◌, map, codes}
use Rattle.std.specs.List.{range_with_len}
use Rattle.as4_values.specs.declared.payload.Load.{Load}
use Rattle.drill_script.specs.declared.line.ScriptLoad.{ScriptLoad}
use Rattle.drill_script.specs.declared.line.ScriptLoad.TheVariants.{Nothing, Hex, Size}

-- this many bytes; the byte at index i is i mod 251
unfoldable pub pattern : ℕ → List ℕ
pattern size = map (λ i. i % 251) (range_with_len 0 size)

abbrev pub octets_load : List ℕ → Load
octets_load content = record { media = codes "application/octet-stream"; content = content }

abbrev pub loads_of : ScriptLoad → List Load
loads_of Nothing = []
loads_of (Hex bytes) = octets_load bytes ∷ []
loads_of (Size size) = octets_load (pattern size) ∷ []
