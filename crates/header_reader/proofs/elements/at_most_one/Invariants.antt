use Rattle.std.proofs.Common.{◌≡◌, take}
use Rattle.std.specs.Prelude.{option_map}
use Rattle.std.specs.Option.{option_to_list}
use Rattle.header_reader.specs.Elements.{named}
use Rattle.header_reader.proofs.elements.at_most_one.Given as goal

-- the child found so far is the only one of this name
abbrev pub invariant-loop-child : goal.invariant-loop-child
invariant-loop-child l = named l.name (take l.child-index l.child-items) ≡ option_to_list (option_map (λ e. e.now) l.found)
