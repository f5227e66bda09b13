-- Which trees can be written: their names are in the two namespaces, and their texts are characters of XML. Local names
-- aren't checked.
use Rattle.std.specs.Prelude.{ℕ, ◌-◌, List, [], ◌∷◌, Bool, true, not, ◌&&◌, ◌||◌, ◌==◌, nat_le, bytes_eq, length}
use Rattle.std.specs.List.{list_all, list_any}
use Rattle.as4_values.specs.Texts.{is_xml}
use Rattle.as4_envelope.specs.declared.tree.Attribute.{Attribute}
use Rattle.as4_envelope.specs.declared.tree.Element.{Element}
use Rattle.as4_envelope.specs.declared.tree.Element.TheOpen.{Element-F}
use Rattle.as4_envelope.specs.declared.tree.Element.TheFolds.{fold-Element}
use Rattle.as4_envelope.specs.Tree.{soap, ebms}

-- a namespace that has a prefix
unfoldable pub has_prefix : List ℕ → Bool
has_prefix space = bytes_eq space soap || bytes_eq space ebms

-- an attribute is in one of these namespaces or in none
unfoldable pub is_attribute : Attribute → Bool
is_attribute a = (length a.space == 0 || has_prefix a.space) && is_xml a.value

-- no two attributes have one expanded name (Namespaces in XML 1.0, section 6.3)
abbrev pub same_name : Attribute → Attribute → Bool
same_name a b = bytes_eq a.space b.space && bytes_eq a.local b.local

abbrev pub names_differ : List Attribute → Bool
names_differ [] = true
names_differ (a ∷ others) = not (list_any (same_name a) others) && names_differ others

-- the element itself can be written, whatever its children are
abbrev pub is_sound : {X : Type 0} → Element-F X → Bool
is_sound e = has_prefix e.space && is_xml e.text && list_all is_attribute e.attributes && names_differ e.attributes

-- an element and its descendants can be written in at most n levels
abbrev pub fits_step : Element-F (ℕ → Bool) → ℕ → Bool
fits_step e levels = nat_le 1 levels && is_sound e && list_all (λ child. child (levels - 1)) e.children

unfoldable pub fits : Element → ℕ → Bool
fits = fold-Element (ℕ → Bool) fits_step

abbrev pub is_writable : Element → Bool
is_writable tree = fits tree 32
