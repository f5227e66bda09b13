-- Which lists of items are a document (XML 1.0, sections 2.1, 2.4, 2.8 and 3; Namespaces in XML 1.0): a written tree,
-- and the tree that it means, by recursion on the written one.
use Rattle.std.specs.Prelude.{◌≡◌, ℕ, suc, ◌<◌, List, [], ◌∷◌, ◌++◌, Bool, true, false, if◌then◌else◌, Some}
use Rattle.std.specs.List.{list_all}
use Rattle.as4_values.specs.Texts.{is_xml}
use Rattle.byte_forms.specs.Classes.{is_blank}
use Rattle.as4_envelope.specs.declared.tree.Element.{Element}
use Rattle.xml_items.specs.Items.{Written, Item, declaration, comment, start, finish, run}
use Rattle.tree_reader.specs.Decoded.{text_meant}
use Rattle.tree_reader.specs.Scopes.{Binding, Begun, element_of, resolve}

-- a written element, with two tags or with one, and the content between two tags
mutual
  pub data Node : Type 0 where
    node : List ℕ → List Written → Content → Node
    leaf : List ℕ → List Written → Node

  pub data Content : Type 0 where
    nothing : Content
    text_then : List ℕ → Content → Content
    comment_then : List ℕ → Content → Content
    node_then : Node → Content → Content

-- the items of an element and of its content
abbrev mutual
  pub items_of : Node → List Item
  items_of (node name attributes content) = start (record { name = name; attributes = attributes; closed = false }) ∷ (items_in content ++ finish name ∷ [])
  items_of (leaf name attributes) = start (record { name = name; attributes = attributes; closed = true }) ∷ []

  pub items_in : Content → List Item
  items_in nothing = []
  items_in (text_then bytes content) = run bytes ∷ items_in content
  items_in (comment_then text content) = comment text ∷ items_in content
  items_in (node_then n content) = items_of n ++ items_in content

-- the joined meaning of the content's texts; comments must be characters of XML
abbrev pub HasText : Content → List ℕ → Type 0
HasText nothing text = text ≡ []
HasText (text_then bytes content) text = (front back : List ℕ) × (text_meant bytes ≡ Some front) × HasText content back × (text ≡ front ++ back)
HasText (comment_then bytes content) text = (is_xml bytes ≡ true) × HasText content text
HasText (node_then n content) text = HasText content text

-- an open element with this content added
abbrev pub grown : Begun → List ℕ → List Element → Begun
grown o text children = record o { text = o.text ++ text; children = o.children ++ children }

-- the element that a written one means in a scope, with `above` elements around it and at most `levels` levels in all;
-- and the elements of its content
abbrev mutual
  pub IsTree : ℕ → ℕ → List Binding → Node → Element → Type 0
  IsTree levels above scope (node name attributes content) e =
      (o : Begun) × (text : List ℕ) × (children : List Element) × (above < levels) × (resolve scope name attributes ≡ Some o)
      × HasText content text × AreTrees levels (suc above) (o.declared ++ scope) content children
      × (e ≡ element_of (grown o text children))
  IsTree levels above scope (leaf name attributes) e =
      (o : Begun) × (above < levels) × (resolve scope name attributes ≡ Some o) × (e ≡ element_of o)

  pub AreTrees : ℕ → ℕ → List Binding → Content → List Element → Type 0
  AreTrees levels above scope nothing es = es ≡ []
  AreTrees levels above scope (text_then bytes content) es = AreTrees levels above scope content es
  AreTrees levels above scope (comment_then bytes content) es = AreTrees levels above scope content es
  AreTrees levels above scope (node_then n content) es =
      (e : Element) × (others : List Element) × IsTree levels above scope n e × AreTrees levels above scope content others × (es ≡ e ∷ others)

-- what may surround the root: comments and blanks (section 2.8)
unfoldable pub is_outside : Item → Bool
is_outside declaration = false
is_outside (comment text) = is_xml text
is_outside (start tag) = false
is_outside (finish name) = false
is_outside (run bytes) = list_all is_blank bytes

abbrev pub opening : Bool → List Item
opening declared = if declared then declaration ∷ [] else []

-- the items spell a document of this tree with at most n levels
pub record Spells (levels : ℕ) (items : List Item) (tree : Element) : Type 0 where
  pub declared : Bool
  pub before : List Item
  pub root : Node
  pub after : List Item
  pub whole : items ≡ opening declared ++ (before ++ (items_of root ++ after))
  pub outside_before : list_all is_outside before ≡ true
  pub outside_after : list_all is_outside after ≡ true
  pub means : IsTree levels 0 [] root tree

-- some document continues these items
abbrev pub Begins : ℕ → List Item → Type 0
Begins levels items = (more : List Item) × (tree : Element) × Spells levels (items ++ more) tree
