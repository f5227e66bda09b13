-- Trees of elements, and the one text of each (XML 1.0, section 3.1; Namespaces in XML 1.0, sections 2.1 and 3).
use Rattle.std.specs.Prelude.{ℕ, List, [], ◌++◌, if◌then◌else◌, codes, bytes_eq}
use Rattle.std.specs.List.{flat_map}
use Rattle.as4_envelope.specs.Markup.{escaped, attribute, element, tag_start, tag_end, end_tag}
use Rattle.as4_envelope.specs.declared.tree.Attribute.{Attribute}
use Rattle.as4_envelope.specs.declared.tree.Element.{Element}
use Rattle.as4_envelope.specs.declared.tree.Element.TheOpen.{Element-F}
use Rattle.as4_envelope.specs.declared.tree.Element.TheViews.{out-Element}
use Rattle.as4_envelope.specs.declared.tree.Element.TheFolds.{fold-Element}

-- the namespaces of SOAP 1.2 (Part 1, section 5) and of ebMS 3.0 (Core, section 5.2)
abbrev pub soap : List ℕ
soap = codes "http://www.w3.org/2003/05/soap-envelope"

abbrev pub ebms : List ℕ
ebms = codes "http://docs.oasis-open.org/ebxml-msg/ebms/v3.0/ns/core/200704/"

-- the prefix of a name in this namespace, with its colon; empty unless the namespace is one of the two
unfoldable pub prefix_of : List ℕ → List ℕ
prefix_of space =
    if bytes_eq space soap then codes "S:"
    else if bytes_eq space ebms then codes "eb:"
    else []

abbrev pub name_of : List ℕ → List ℕ → List ℕ
name_of space local = prefix_of space ++ local

abbrev pub attribute_text : Attribute → List ℕ
attribute_text a = attribute (name_of a.space a.local) a.value

-- the declarations of both prefixes, in the outermost element
unfoldable pub declarations : List ℕ
declarations = attribute (codes "xmlns:S") soap ++ attribute (codes "xmlns:eb") ebms

-- one element: its declarations, its attributes, its text, and its children, which declare nothing
abbrev pub element_step : Element-F (List ℕ → List ℕ) → List ℕ → List ℕ
element_step e declared =
    element (name_of e.space e.local) (declared ++ flat_map attribute_text e.attributes)
    (escaped e.text ++ flat_map (λ child. child []) e.children)

unfoldable pub element_text : Element → List ℕ → List ℕ
element_text = fold-Element (List ℕ → List ℕ) element_step

-- an element nested in another
unfoldable pub child_text : Element → List ℕ
child_text child = element_text child []

-- the text of a tree
abbrev pub tree_text : Element → List ℕ
tree_text tree = element_text tree declarations

-- the two tags of an element
abbrev pub start_text : Element → List ℕ → List ℕ
start_text e declared =
    let o = out-Element e in
    tag_start (name_of o.space o.local) ++ (declared ++ flat_map attribute_text o.attributes) ++ tag_end

abbrev pub end_text : Element → List ℕ
end_text e = let o = out-Element e in end_tag (name_of o.space o.local)
