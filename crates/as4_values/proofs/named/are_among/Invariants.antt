use Rattle.std.proofs.Common.{◌≡◌, map, drop}
use Rattle.std.specs.List.{list_all}
use Rattle.as4_values.specs.Pairing.{is_among}
use Rattle.as4_values.proofs.named.are_among.Given as goal

-- those so far are among the others
abbrev pub invariant-loop-item : goal.invariant-loop-item
invariant-loop-item g l =
    list_all (is_among (map g.U.Named.name l.others)) (map g.T.Named.name l.items)
    ≡ list_all (is_among (map g.U.Named.name l.others)) (map g.T.Named.name (drop l.item-index l.items))
