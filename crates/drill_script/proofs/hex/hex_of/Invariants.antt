use Rattle.std.proofs.Common.{◌≡◌, ◌++◌, length, IsTrue}
use Rattle.drill_script.specs.LineText.{are_bytes, hex_text}
use Rattle.drill_script.proofs.hex.hex_of.Given as goal

abbrev pub invariant-pairs : goal.invariant-pairs
invariant-pairs l = record {
  so_far : l.digits ≡ hex_text l.bytes.items ++ l.rest;
  in_range : IsTrue (are_bytes l.bytes.items);
}

abbrev pub decreases-pairs : goal.decreases-pairs
decreases-pairs l = length l.rest
