use Rattle.std.proofs.Common.{◌≡◌, length, drop, map}
use Rattle.std.specs.Vec.{vec_len, vec_capacity}
use Rattle.toml.specs.View.{view}
use Rattle.mode_values.specs.ModeFields.{mode_fields}
use Rattle.pmodes.specs.ModeFile.{modes_from}
use Rattle.pmodes.proofs.TableLemmas.{go_on}
use Rattle.pmodes.proofs.reading.modes_in.Given as goal

-- the modes so far are those of the items so far, with room for all
abbrev pub invariant-loop-place : goal.invariant-loop-place
invariant-loop-place l = record {
  so_far : modes_from 0 (map view l.items) ≡ go_on (map mode_fields l.modes.items) (modes_from l.place (map view (drop l.place l.items)));
  len : vec_len l.modes ≡ l.place;
  room : vec_capacity l.modes ≡ length l.items;
}
