-- A tree is at most four times as large as the document that it is read from.
use Rattle.std.proofs.Common.{◌≡◌, ℕ, suc, ◌+◌, ◌*◌, ◌≤◌, true, false, List, [], ◌∷◌, ◌++◌, Some, length, length-append, map, arith, ap, ◌∙◌, sym}
use Rattle.std.specs.Prelude.{◌||◌}
use Rattle.std.specs.List.{sum_by}
use Rattle.std.proofs.lemmas.Option.{same_Some}
use Rattle.std.proofs.lemmas.List.Sums.{sum_by-cons, sum_by-append}
use Rattle.as4_envelope.specs.declared.tree.Attribute.{Attribute}
use Rattle.as4_envelope.specs.declared.tree.Element.{Element}
use Rattle.as4_envelope.specs.declared.tree.Element.TheFolds.{fold-roll-Element}
use Rattle.as4_envelope.specs.Writable.{names_differ}
use Rattle.byte_forms.proofs.CutLemmas.{bind_some}
use Rattle.xml_items.specs.Items.{Written, Item, comment, start, finish, run}
use Rattle.xml_items.specs.Grammar.{meaning}
use Rattle.tree_reader.specs.Decoded.{value_meant}
use Rattle.tree_reader.specs.Documents.{IsDocument, limit, behind_mark}
use Rattle.tree_reader.specs.Names.{qualified}
use Rattle.tree_reader.specs.Scopes.{Binding, Begun, binds_default, binds_prefix, declared_by, element_space, attribute_space, attribute_by, written_differ, element_of, resolve}
use Rattle.tree_reader.specs.Steps.{gathered}
use Rattle.tree_reader.specs.Trees.{Node, node, leaf, Content, nothing, text_then, comment_then, node_then, items_of, items_in, HasText, grown, IsTree, AreTrees, opening, Spells}
use Rattle.tree_reader.proofs.HaltLemmas.{length-behind_mark}
use Rattle.coming_laws.specs.Sizes.{value_size, size_step, size}
use Rattle.coming_laws.proofs.ChoiceLemmas.{either, only_first}
use Rattle.coming_laws.proofs.ItemSizes.{written_size, weight, items_weight}
use Rattle.coming_laws.proofs.SumLemmas.{sum_by-map}
use Rattle.coming_laws.proofs.TextSizes.{after_front, characters_size}

-- the attributes of a tag

attribute_size : (scope : List Binding) (a : Written) (attributes : List Attribute) → attribute_by scope a ≡ Some attributes → sum_by value_size attributes ≤ 4 * written_size a
unfolding attribute_by
attribute_size scope a attributes e =
    either (binds_default a.name || binds_prefix a.name) _ _ (Some attributes) e
    (λ none. omega (arith, ap (λ (l : List Attribute). sum_by value_size l) (same_Some [] attributes none)))
    (λ one.
    bind_some (qualified a.name) _ attributes one λ q named placed.
    bind_some (attribute_space scope q.prefix) _ attributes placed λ space found read.
    bind_some (value_meant a.value) _ attributes read λ value meant is.
    omega (arith, characters_size true a.value value meant, ap (λ (l : List Attribute). sum_by value_size l) (same_Some _ attributes is)))

attributes_size : (scope : List Binding) (written : List Written) (attributes : List Attribute) → gathered (attribute_by scope) written ≡ Some attributes
    → sum_by value_size attributes ≤ 4 * sum_by written_size written
attributes_size scope [] attributes e = omega (arith, ap (λ (l : List Attribute). sum_by value_size l) (same_Some [] attributes e))
attributes_size scope (a ∷ written) attributes e =
    bind_some (attribute_by scope a) _ attributes e λ first here rest.
    let others = after_front first (gathered (attribute_by scope) written) attributes rest in
    omega (
      arith,
      attribute_size scope a first here,
      attributes_size scope written others.0 others.1,
      sum_by-cons written_size a written,
      ap (λ (l : List Attribute). sum_by value_size l) others.2,
      sum_by-append value_size first others.0,
    )

-- an element that a tag begins
record IsNew (o : Begun) (written : List Written) : Type 0 where
  text : o.text ≡ []
  children : o.children ≡ []
  attributes : sum_by value_size o.attributes ≤ 4 * sum_by written_size written

begun_size : (scope : List Binding) (name : List ℕ) (written : List Written) (o : Begun) → resolve scope name written ≡ Some o → IsNew o written
unfolding resolve
begun_size scope name written o e =
    bind_some (gathered declared_by written) _ o (only_first (written_differ written) _ o e) λ declared all more.
    bind_some (qualified name) _ o more λ q named placed.
    bind_some (element_space (declared ++ scope) q.prefix) _ o placed λ space found read.
    bind_some (gathered (attribute_by (declared ++ scope)) written) _ o read λ attributes are made.
    let is = same_Some _ o (only_first (names_differ attributes) _ o made) in
    record {
      text = sym (ap (λ (b : Begun). b.text) is);
      children = sym (ap (λ (b : Begun). b.children) is);
      attributes = omega (arith, attributes_size (declared ++ scope) written attributes are, ap (λ (b : Begun). sum_by value_size b.attributes) is);
    }

-- elements

element_size : (o : Begun) → size (element_of o) ≡ length o.text + sum_by value_size o.attributes + sum_by size o.children
unfolding size
element_size o =
    fold-roll-Element ℕ size_step (record { space = o.space; local = o.local; attributes = o.attributes; text = o.text; children = o.children })
    ∙ ap (λ (n : ℕ). length o.text + sum_by value_size o.attributes + n) (sum_by-map size (λ n. n) o.children)

grown_size : (o : Begun) (written : List Written) (text : List ℕ) (children : List Element) → IsNew o written
    → size (element_of (grown o text children)) ≤ 4 * sum_by written_size written + length text + sum_by size children
grown_size o written text children new =
    omega (
      arith,
      element_size (grown o text children),
      new.attributes,
      length-append o.text text,
      ap (λ (l : List ℕ). length l) new.text,
      sum_by-append size o.children children,
      ap (λ (l : List Element). sum_by size l) new.children,
    )

mutual
  node_size : (n : Node) (levels above : ℕ) (scope : List Binding) (e : Element) → IsTree levels above scope n e → size e ≤ 4 * sum_by weight (items_of n)
  node_size (leaf name written) levels above scope e is =
      let new = begun_size scope name written is.0 is.2 in
      omega (
        arith,
        element_size is.0,
        new.attributes,
        ap (λ (l : List ℕ). length l) new.text,
        ap (λ (l : List Element). sum_by size l) new.children,
        ap size is.3,
      )
  node_size (node name written content) levels above scope e is =
      let tag : Item = start (record { name = name; attributes = written; closed = false }) in
      omega (
        arith,
        grown_size is.0 written is.1 is.2 (begun_size scope name written is.0 is.4),
        content_size content levels (suc above) (is.0.declared ++ scope) is.1 is.2 is.5 is.6,
        sum_by-cons weight tag (items_in content ++ finish name ∷ []),
        sum_by-append weight (items_in content) (finish name ∷ []),
        ap size is.7,
      )

  content_size : (content : Content) (levels above : ℕ) (scope : List Binding) (text : List ℕ) (es : List Element) → HasText content text
      → AreTrees levels above scope content es → length text + sum_by size es ≤ 4 * sum_by weight (items_in content)
  content_size nothing levels above scope text es has are =
      omega (arith, ap (λ (l : List ℕ). length l) has, ap (λ (l : List Element). sum_by size l) are)
  content_size (text_then bytes content) levels above scope text es has are =
      omega (
        arith,
        characters_size false bytes has.0 has.2,
        content_size content levels above scope has.1 es has.3 are,
        ap (λ (l : List ℕ). length l) has.4,
        length-append has.0 has.1,
        sum_by-cons weight (run bytes) (items_in content),
      )
  content_size (comment_then bytes content) levels above scope text es has are =
      omega (arith, content_size content levels above scope text es has.1 are, sum_by-cons weight (comment bytes) (items_in content))
  content_size (node_then n content) levels above scope text es has are =
      omega (
        arith,
        node_size n levels above scope are.0 are.2,
        content_size content levels above scope text are.1 has are.3,
        ap (λ (l : List Element). sum_by size l) are.4,
        sum_by-cons size are.0 are.1,
        sum_by-append weight (items_of n) (items_in content),
      )

-- documents

spelled_size : (levels : ℕ) (items : List Item) (tree : Element) → Spells levels items tree → size tree ≤ 4 * sum_by weight items
spelled_size levels items tree spells =
    omega (
      arith,
      node_size spells.root levels 0 [] tree spells.means,
      ap (λ (l : List Item). sum_by weight l) spells.whole,
      sum_by-append weight (opening spells.declared) (spells.before ++ (items_of spells.root ++ spells.after)),
      sum_by-append weight spells.before (items_of spells.root ++ spells.after),
      sum_by-append weight (items_of spells.root) spells.after,
    )

pub document_size : (bytes : List ℕ) (tree : Element) → IsDocument bytes tree → size tree ≤ 4 * limit
document_size bytes tree document =
    omega (
      arith,
      spelled_size _ (map meaning document.items) tree document.spelled,
      items_weight (behind_mark bytes) document.items [] document.cut,
      length-behind_mark bytes,
      document.short,
    )
