-- The content of an element, by the expanded names of its attributes and children (Namespaces in XML 1.0, section 2.1).
use Rattle.std.specs.Prelude.{ℕ, List, [], ◌∷◌, Bool, not, ◌&&◌, ◌||◌, ◌==◌, if◌then◌else◌, Option, Some, None, option_map, length, bytes_eq}
use Rattle.std.specs.List.{filter, find, list_all, list_any}
use Rattle.as4_envelope.specs.Tree.{ebms}
use Rattle.as4_envelope.specs.declared.tree.Attribute.{Attribute}
use Rattle.as4_envelope.specs.declared.tree.Element.{Element}
use Rattle.as4_envelope.specs.declared.tree.Element.TheViews.{out-Element}
use Rattle.byte_forms.specs.Cuts.{◌>>=◌}
use Rattle.header_reader.specs.Names.{element_name, attribute_name}
use Rattle.header_reader.specs.Values.{optional}
use Rattle.header_reader.specs.declared.names.AttributeName.{AttributeName}
use Rattle.header_reader.specs.declared.names.ElementName.{ElementName}

abbrev pub children_of : Element → List Element
children_of e = (out-Element e).children

abbrev pub text_in : Element → List ℕ
text_in e = (out-Element e).text

-- an attribute in no namespace with this name
abbrev pub is_plain : AttributeName → Attribute → Bool
is_plain name a = length a.space == 0 && bytes_eq a.local (attribute_name name)

-- the value of that attribute, if the element has one
unfoldable pub attribute_of : AttributeName → Element → Option (List ℕ)
attribute_of name e = option_map (λ a. a.value) (find (is_plain name) (out-Element e).attributes)

-- an optional attribute
abbrev pub optional_value : {X : Type 0} → (List ℕ → Option X) → Option (List ℕ) → Option (Option X)
optional_value reading None = Some None
optional_value reading (Some bytes) = optional reading bytes

unfoldable pub optional_attribute : {X : Type 0} → (List ℕ → Option X) → AttributeName → Element → Option (Option X)
optional_attribute reading name e = optional_value reading (attribute_of name e)

-- a required attribute
unfoldable pub attribute : {X : Type 0} → (List ℕ → Option X) → AttributeName → Element → Option X
attribute reading name e = attribute_of name e >>= reading

abbrev pub is_ebms : Element → Bool
is_ebms e = bytes_eq (out-Element e).space ebms

-- an element of ebMS with this name
unfoldable pub is_named : ElementName → Element → Bool
is_named name e = is_ebms e && bytes_eq (out-Element e).local (element_name name)

-- the children of ebMS with this name, in order
abbrev pub named : ElementName → List Element → List Element
named name children = filter (is_named name) children

-- a child of ebMS has one of these names; children outside of ebMS are allowed
unfoldable pub may_stand : List ElementName → Element → Bool
may_stand names child = not (is_ebms child) || list_any (λ name. bytes_eq (out-Element child).local (element_name name)) names

-- each child of ebMS has one of these names
unfoldable pub holds_only : List ElementName → Element → Bool
holds_only names e = list_all (may_stand names) (children_of e)

-- the one element or none; `None` if there are two or more
abbrev pub at_most_one : List Element → Option (Option Element)
at_most_one [] = Some None
at_most_one (e ∷ []) = Some (Some e)
at_most_one (e ∷ f ∷ others) = None

abbrev pub read_one : {X : Type 0} → (Element → Option X) → Option Element → Option X
read_one reading None = None
read_one reading (Some e) = reading e

abbrev pub read_if_some : {X : Type 0} → (Element → Option X) → Option Element → Option (Option X)
read_if_some reading None = Some None
read_if_some reading (Some e) = option_map Some (reading e)

-- the child of this name, exactly one
unfoldable pub child : {X : Type 0} → (Element → Option X) → ElementName → Element → Option X
child reading name e = at_most_one (named name (children_of e)) >>= read_one reading

-- the child of this name, at most one
unfoldable pub optional_child : {X : Type 0} → (Element → Option X) → ElementName → Element → Option (Option X)
optional_child reading name e = at_most_one (named name (children_of e)) >>= read_if_some reading

-- each of these elements
abbrev pub each : {X : Type 0} → (Element → Option X) → List Element → Option (List X)
each reading [] = Some []
each reading (e ∷ others) = reading e >>= λ x. each reading others >>= λ xs. Some (x ∷ xs)

-- the children of this name, any number
unfoldable pub children : {X : Type 0} → (Element → Option X) → ElementName → Element → Option (List X)
children reading name e = each reading (named name (children_of e))

-- the reading of an element whose children of ebMS have only these names
abbrev pub holding : {X : Type 0} → List ElementName → Element → Option X → Option X
holding names e read = if holds_only names e then read else None

-- an element without children of ebMS, read by its text
unfoldable pub leaf : {X : Type 0} → (List ℕ → Option X) → Element → Option X
leaf reading e = holding [] e (reading (text_in e))
