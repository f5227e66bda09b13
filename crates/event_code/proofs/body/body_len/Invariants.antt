use Rattle.std.proofs.Common.{◌≡◌, ◌≤◌, ◌+◌, ◌*◌, take, length}
use Rattle.std.specs.List.{flat_map, sum_by}
use Rattle.as4_effects.specs.Effects.{effect_body, most_bytes_of}
use Rattle.event_code.proofs.body.body_len.Given as goal

-- the effects so far are counted
abbrev pub invariant-loop-effect : goal.invariant-loop-effect
invariant-loop-effect l = record {
  counted : l.len ≡ 2 + length (flat_map effect_body (take l.effect-index l.effect-items));
  most : l.len ≤ 2 + sum_by most_bytes_of (take l.effect-index l.effect-items);
  limited : l.len ≤ 2 + 536870991 * l.effect-index;
}
