use Rattle.std.proofs.Common.{◌≡◌, ◌&&◌, drop}
use Rattle.std.specs.List.{list_all}
use Rattle.tree_reader.specs.Decoded.{is_simple}
use Rattle.tree_reader.proofs.text.is_simple.Given as goal

-- the result combines the bytes so far with the remaining ones
abbrev pub invariant-loop-byte : goal.invariant-loop-byte
invariant-loop-byte l = list_all (is_simple l.in_value) l.bytes ≡ (l.simple && list_all (is_simple l.in_value) (drop l.byte-index l.bytes))
