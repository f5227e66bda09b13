-- Prefixes and their namespaces (Namespaces in XML 1.0, sections 2 to 6).
use Rattle.std.specs.Prelude.{ℕ, ◌∷◌, List, [], ◌++◌, Bool, true, not, ◌&&◌, ◌||◌, ◌==◌, if◌then◌else◌, Option, Some, None, length, take, drop, bytes_eq, codes}
use Rattle.std.specs.List.{list_any, flat_map}
use Rattle.as4_envelope.specs.declared.tree.Attribute.{Attribute}
use Rattle.as4_envelope.specs.declared.tree.Element.{Element}
use Rattle.as4_envelope.specs.declared.tree.Element.TheViews.{roll-Element}
use Rattle.as4_envelope.specs.Writable.{names_differ}
use Rattle.xml_items.specs.Items.{Written}
use Rattle.byte_forms.specs.Cuts.{◌>>=◌}
use Rattle.tree_reader.specs.Steps.{given, gathered}
use Rattle.tree_reader.specs.Names.{is_local_name, qualified}
use Rattle.tree_reader.specs.Decoded.{value_meant}

-- the namespaces of the prefixes `xml` and `xmlns` (section 3)
abbrev pub xml_space : List ℕ
xml_space = codes "http://www.w3.org/XML/1998/namespace"

abbrev pub xmlns_space : List ℕ
xmlns_space = codes "http://www.w3.org/2000/xmlns/"

abbrev pub is_empty : List ℕ → Bool
is_empty bytes = length bytes == 0

-- a prefix, empty for names without one, and its namespace
pub record Binding : Type 0 where
  pub prefix : List ℕ
  pub space : List ℕ

-- whether the prefix may be bound to the namespace (section 3, "Reserved Prefixes", and section 2.2)
unfoldable pub may_bind : List ℕ → List ℕ → Bool
may_bind prefix space =
    not (bytes_eq prefix (codes "xmlns")) && not (bytes_eq space xmlns_space)
    && (if bytes_eq prefix (codes "xml") then bytes_eq space xml_space else not (bytes_eq space xml_space))
    && (is_empty prefix || not (is_empty space))

-- `xmlns` binds names without a prefix, `xmlns:p` binds the prefix p
abbrev pub binds_default : List ℕ → Bool
binds_default name = bytes_eq name (codes "xmlns")

abbrev pub binds_prefix : List ℕ → Bool
binds_prefix name = bytes_eq (take 6 name) (codes "xmlns:")

unfoldable pub bound : List ℕ → List ℕ → Option (List Binding)
bound prefix value =
    value_meant value >>= λ space.
    given (may_bind prefix space) (Some (record { prefix = prefix; space = space } ∷ []))

-- the binding of an attribute, if it is a declaration
unfoldable pub declared_by : Written → Option (List Binding)
declared_by a =
    if binds_default a.name then bound [] a.value
    else if binds_prefix a.name then given (is_local_name (drop 6 a.name)) (bound (drop 6 a.name) a.value)
    else Some []

-- the namespace to which the nearest declaration binds the prefix
abbrev pub found : List Binding → List ℕ → Option (List ℕ)
found [] prefix = None
found (b ∷ scope) prefix = if bytes_eq b.prefix prefix then Some b.space else found scope prefix

-- a name without a prefix is in no namespace if no declaration binds it
abbrev pub or_none : List ℕ → Option (List ℕ) → Option (List ℕ)
or_none prefix None = given (is_empty prefix) (Some [])
or_none prefix (Some space) = Some space

-- the namespace of an element
unfoldable pub element_space : List Binding → List ℕ → Option (List ℕ)
element_space scope prefix = if bytes_eq prefix (codes "xml") then Some xml_space else or_none prefix (found scope prefix)

-- an attribute without a prefix is in no namespace (section 6.2)
unfoldable pub attribute_space : List Binding → List ℕ → Option (List ℕ)
attribute_space scope prefix = if is_empty prefix then Some [] else element_space scope prefix

-- the attribute of the tree, unless it is a declaration
unfoldable pub attribute_by : List Binding → Written → Option (List Attribute)
attribute_by scope a =
    if binds_default a.name || binds_prefix a.name then Some []
    else
    qualified a.name >>= λ q.
    attribute_space scope q.prefix >>= λ space.
    value_meant a.value >>= λ value.
    Some (record { space = space; local = q.local; value = value } ∷ [])

-- no two attributes have the same written name (XML 1.0, section 3.1)
abbrev pub same_written : Written → Written → Bool
same_written a b = bytes_eq a.name b.name

abbrev pub written_differ : List Written → Bool
written_differ [] = true
written_differ (a ∷ others) = not (list_any (same_written a) others) && written_differ others

-- an open element: its written name, the declarations of its tag, and its content so far
pub record Begun : Type 0 where
  pub name : List ℕ
  pub declared : List Binding
  pub space : List ℕ
  pub local : List ℕ
  pub attributes : List Attribute
  pub text : List ℕ
  pub children : List Element

-- the open elements, with these bytes appended to the local name of the innermost
abbrev pub named : List ℕ → List Begun → List Begun
named local [] = []
named local (o ∷ os) = record o { local = o.local ++ local } ∷ os

abbrev pub element_of : Begun → Element
element_of o = roll-Element (record { space = o.space; local = o.local; attributes = o.attributes; text = o.text; children = o.children })

-- the declarations of these elements, innermost first
abbrev pub scope_of : List Begun → List Binding
scope_of os = flat_map (λ o. o.declared) os

-- the element that a start tag begins in a scope (section 6; no two attributes have one expanded name: section 6.3)
unfoldable pub resolve : List Binding → List ℕ → List Written → Option Begun
resolve scope name attributes =
    given (written_differ attributes) (
    gathered declared_by attributes >>= λ declared.
    qualified name >>= λ q.
    element_space (declared ++ scope) q.prefix >>= λ space.
    gathered (attribute_by (declared ++ scope)) attributes >>= λ pairs.
    given (names_differ pairs) (Some (record {
      name = name;
      declared = declared;
      space = space;
      local = q.local;
      attributes = pairs;
      text = [];
      children = [];
    }))
    )
