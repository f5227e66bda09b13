use Rattle.std.proofs.Common.{◌≡◌, ◌&&◌, drop}
use Rattle.std.specs.List.{list_all}
use Rattle.tree_reader.specs.Names.{is_simple}
use Rattle.tree_reader.proofs.names.is_simple.Given as goal

-- the result combines the bytes so far with the remaining ones
abbrev pub invariant-loop-byte : goal.invariant-loop-byte
invariant-loop-byte l = list_all is_simple l.name ≡ (l.simple && list_all is_simple (drop l.byte-index l.name))
