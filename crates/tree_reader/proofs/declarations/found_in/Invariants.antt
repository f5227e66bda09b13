use Rattle.std.proofs.Common.{◌≡◌, map, drop}
use Rattle.tree_reader.specs.Scopes.{found}
use Rattle.tree_reader.specs.Declarations.{binding_of}
use Rattle.tree_reader.proofs.declarations.found_in.Given as goal

-- the result depends only on the remaining declarations
abbrev pub invariant-loop-binding : goal.invariant-loop-binding
invariant-loop-binding l = found (map binding_of l.declared) l.prefix ≡ found (map binding_of (drop l.binding-index l.declared)) l.prefix
