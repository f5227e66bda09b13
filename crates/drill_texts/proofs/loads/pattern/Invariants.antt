use Rattle.std.proofs.Common.{◌≡◌, ◌%◌, map}
use Rattle.std.specs.List.{range_with_len}
use Rattle.std.specs.Vec.{vec_len, vec_capacity}
use Rattle.drill_texts.proofs.loads.pattern.Given as goal

-- the bytes so far, and room for all
abbrev pub invariant-loop-place : goal.invariant-loop-place
invariant-loop-place l = record {
  so_far : l.bytes.items ≡ map (λ i. i % 251) (range_with_len 0 l.place);
  len : vec_len l.bytes ≡ l.place;
  room : vec_capacity l.bytes ≡ l.size;
}
