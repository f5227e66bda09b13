use Rattle.std.proofs.Common.{◌≡◌, map, drop}
use Rattle.as4_values.specs.Pairing.{all_differ}
use Rattle.as4_values.proofs.named.all_differ.Given as goal

-- those so far differ from all others
abbrev pub invariant-loop-at : goal.invariant-loop-at
invariant-loop-at g l =
    all_differ (map g.T.Named.name l.items) ≡ all_differ (map g.T.Named.name (drop l.at l.items))
