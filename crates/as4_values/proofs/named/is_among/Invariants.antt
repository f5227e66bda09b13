use Rattle.std.proofs.Common.{◌≡◌, map, drop}
use Rattle.as4_values.specs.Pairing.{is_among}
use Rattle.as4_values.proofs.named.is_among.Given as goal

-- none of the items so far has it
abbrev pub invariant-loop-item : goal.invariant-loop-item
invariant-loop-item g l =
    is_among (map g.T.Named.name l.items) l.cid ≡ is_among (map g.T.Named.name (drop l.item-index l.items)) l.cid
