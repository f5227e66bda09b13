use Rattle.std.proofs.Common.{◌≡◌, ◌+◌, drop}
use Rattle.std.specs.List.{prefix_len}
use Rattle.tree_reader.specs.Decoded.{is_plain}
use Rattle.tree_reader.proofs.text.plain_len.Given as goal

-- the bytes so far mean themselves
abbrev pub invariant-loop-at : goal.invariant-loop-at
invariant-loop-at l = prefix_len (is_plain l.in_value) l.bytes ≡ l.at + prefix_len (is_plain l.in_value) (drop l.at l.bytes)
