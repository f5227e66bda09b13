use Rattle.std.proofs.Common.{◌≡◌, length, take}
use Rattle.as4_audit.specs.Taking.{ItemsFor}
use Rattle.as4_audit.proofs.failures.items_of.Given as goal

-- the items so far
abbrev pub invariant-loop-effect : goal.invariant-loop-effect
invariant-loop-effect l = record {
  items : ItemsFor l.core.end.sent (take l.effect-index l.effects) l.items.items;
  counted : length l.items.items ≡ l.effect-index;
}
