-- The items of a stack's node, and of those below it.
use Rattle.std.specs.Prelude.{ℕ, List, [], ◌∷◌}
use Rattle.as4_host.specs.declared.stack.Node.{Node}
use Rattle.as4_host.specs.declared.stack.Node.TheVariants.{End, More}

abbrev pub items : Node → List (List ℕ)
items End = []
items (More item below) = item ∷ below.value
