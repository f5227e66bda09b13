-- The declarations of a tag, and the index of the first declaration of each prefix.
use Rattle.std.specs.Borrow.{Bor}
use Rattle.std.specs.Prelude.{◌≡◌, ℕ, List, Option, Some, None, map, Box}
use Rattle.std.specs.List.{slice_get}
use Rattle.std.specs.Option.{option_map}
use Rattle.std.specs.declared.cmp.Ordering.{Ordering}
use Rattle.std.specs.Ordering.{nat_cmp}
use Rattle.std.specs.Cmp.Lexicographic.{slice_cmp}
use Rattle.std.specs.BTreeMap.{BTreeMap, get}
use Rattle.tree_reader.specs.Scopes.{Binding, found}
use Rattle.tree_reader.specs.declared.declarations.Declared.{Declared}

abbrev pub binding_of : Declared → Binding
binding_of b = record { prefix = b.prefix.now; space = b.space }

-- prefixes in the order of their bytes
abbrev pub prefix_cmp : Bor (List ℕ) → Bor (List ℕ) → Ordering
prefix_cmp p q = slice_cmp nat_cmp p.now q.now

-- the namespace of the declaration at this index
abbrev pub space_at : List Declared → Option ℕ → Option (List ℕ)
space_at declared None = None
space_at declared (Some at) = option_map (λ d. d.space) (slice_get declared at)

-- the index holds the first position of each prefix among these
abbrev pub Indexes : BTreeMap (Bor (List ℕ)) ℕ → List Declared → List Declared → Type 0
Indexes index declared among = (prefix : Bor (List ℕ)) → space_at declared (get prefix_cmp index prefix) ≡ found (map binding_of among) prefix.now

-- the index, if there is one, holds all declarations
abbrev pub IsIndexed : {Z : Type 0} → Option (Box (BTreeMap (Bor (List ℕ)) ℕ) Z) → List Declared → Type 0
IsIndexed None declared = Unit {0}
IsIndexed (Some index) declared = Indexes index.value declared declared
