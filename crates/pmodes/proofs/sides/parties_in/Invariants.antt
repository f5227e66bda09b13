use Rattle.std.proofs.Common.{◌≡◌, length, drop, map, IsTrue}
use Rattle.std.specs.List.{list_all}
use Rattle.std.specs.Vec.{vec_len, vec_capacity}
use Rattle.toml.specs.View.{view}
use Rattle.mode_values.specs.ModeRanges.{is_short_party}
use Rattle.pmodes.specs.ModeParts.{parties_in}
use Rattle.pmodes.proofs.TableLemmas.{go_on}
use Rattle.pmodes.proofs.sides.parties_in.Given as goal

-- the parties so far are those of the items so far, with room for all
abbrev pub invariant-loop-item : goal.invariant-loop-item
invariant-loop-item l = record {
  so_far : parties_in (map view l.items) ≡ go_on l.parties.items (parties_in (map view (drop l.item-index l.items)));
  counted : length l.parties.items ≡ l.item-index;
  len : vec_len l.parties ≡ l.item-index;
  room : vec_capacity l.parties ≡ length l.items;
  short : IsTrue (list_all is_short_party l.parties.items);
}
