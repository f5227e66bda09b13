-- Which trees are read back from their canonical text: those whose local names are names.
use Rattle.std.specs.Prelude.{ℕ, List, Bool, not, ◌&&◌}
use Rattle.std.specs.List.{list_all}
use Rattle.as4_envelope.specs.declared.tree.Attribute.{Attribute}
use Rattle.as4_envelope.specs.declared.tree.Element.{Element}
use Rattle.as4_envelope.specs.declared.tree.Element.TheOpen.{Element-F}
use Rattle.as4_envelope.specs.declared.tree.Element.TheFolds.{fold-Element}
use Rattle.xml_items.specs.Classes.{is_name_byte}
use Rattle.tree_reader.specs.Names.{is_local_name}
use Rattle.tree_reader.specs.Scopes.{is_empty, binds_default}

-- a name without a prefix (Namespaces in XML 1.0, section 4)
unfoldable pub is_name : List ℕ → Bool
is_name name = is_local_name name && list_all is_name_byte name

-- the attribute's local name is a name, and isn't `xmlns` in no namespace
unfoldable pub is_named_attribute : Attribute → Bool
is_named_attribute a = is_name a.local && not (is_empty a.space && binds_default a.local)

abbrev pub has_names_step : Element-F Bool → Bool
has_names_step e = is_name e.local && list_all is_named_attribute e.attributes && list_all (λ child. child) e.children

-- each element and attribute has such a name
unfoldable pub has_names : Element → Bool
has_names = fold-Element Bool has_names_step
