use Rattle.std.proofs.Common.{◌≡◌, Some, map, option_map}
use Rattle.toml.specs.Data.{as_array}
use Rattle.toml.specs.View.{view}
use Rattle.pmodes.specs.ModeParts.{list_of}
use Rattle.pmodes.proofs.TableLemmas.{items_listed}
use Rattle.pmodes.proofs.sides.items_of.Goals as goal

pub returns-in-Some : goal.returns-in-Some
returns-in-Some c =
    let listed : Some (map view c.in-Some.items.now.items) ≡ option_map list_of (as_array (view c.args.value.now)) = rw c.in-Some.is at (items_listed c.as_array.result _ c.as_array.ensures) in
    rw c.as_slice.ensures.value listed
