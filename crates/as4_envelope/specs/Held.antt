-- The attributes in either of their two representations.
use Rattle.std.specs.Prelude.{List, [], ◌∷◌}
use Rattle.as4_envelope.specs.declared.tree.Attribute.{Attribute}
use Rattle.as4_envelope.specs.declared.attributes.Held.{Held}
use Rattle.as4_envelope.specs.declared.attributes.Held.TheVariants.{One, Many}

abbrev pub held_attributes : Held → List Attribute
held_attributes (One attribute) = attribute ∷ []
held_attributes (Many list) = list
