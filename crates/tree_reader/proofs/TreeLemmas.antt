-- Items that are read to the end spell a document.
use Rattle.std.proofs.Common.{◌≡◌, ℕ, zero, suc, ◌≤◌, Bool, true, false, List, [], ◌∷◌, ◌++◌, Some, Result, Ok, Err, length, inl, inr, refl, sym, ap, ◌∙◌, append_assoc, arith, length-append}
use Rattle.std.specs.List.{list_all}
use Rattle.as4_values.specs.Texts.{is_xml}
use Rattle.byte_forms.specs.Classes.{is_blank}
use Rattle.as4_envelope.specs.declared.tree.Element.{Element}
use Rattle.xml_items.specs.Items.{Tag, Item, declaration, comment, start, finish, run}
use Rattle.tree_reader.specs.Decoded.{text_meant}
use Rattle.tree_reader.specs.Scopes.{Begun, element_of, scope_of}
use Rattle.tree_reader.specs.Reading.{Fault, markup, State, within, done, placed, opened, step, run_items, nothing_read}
use Rattle.tree_reader.specs.Trees.{Node, node, leaf, Content, nothing, text_then, comment_then, node_then, items_of, items_in, HasText, grown, IsTree, AreTrees, is_outside, opening, Spells}
use Rattle.tree_reader.proofs.TextLemmas.{told}
use Rattle.tree_reader.proofs.StepLemmas.{ok, then_ok, resolve_name, grown_none, unchanged_ok, step_start, step_text, step_comment, step_finish}
use Rattle.tree_reader.proofs.SpellLemmas.{at_state, more_text, more_children}

-- the items up to the end tag of the innermost element, and those after it
pub record Closes (levels : ℕ) (o : Begun) (os : List Begun) (items : List Item) (tree : Element) : Type 0 where
  pub content : Content
  pub text : List ℕ
  pub children : List Element
  pub after : List Item
  pub whole : items ≡ items_in content ++ finish o.name ∷ after
  pub has : HasText content text
  pub are : AreTrees levels (suc (length os)) (o.declared ++ scope_of os) content children
  pub runs : run_items levels after (placed (element_of (grown o text children)) os) ≡ Ok (done tree)

module _ (levels : ℕ) (tree : Element) where
  runs_from : (item : Item) (items : List Item) (s : State) → run_items levels (item ∷ items) s ≡ Ok (done tree)
      → (t : State) × (step levels item s ≡ Ok t) × (run_items levels items t ≡ Ok (done tree))
  runs_from item items s e = then_ok (step levels item s) (run_items levels items) (done tree) e

  at : (items : List Item) (s t : State) → s ≡ t → run_items levels items s ≡ Ok (done tree) → run_items levels items t ≡ Ok (done tree)
  at items s t same e = sym (at_state levels items s t same) ∙ e

  faults : (s : State) → ◌≡◌ {A = Result State Fault} (Err markup) (Ok s) → ⊥
  faults s e = cc

  not_done : (o : Begun) (os : List Begun) → ok (within false (o ∷ os)) ≡ ok (done tree) → ⊥
  not_done o os e = cc

  end_closes : (name : List ℕ) (items : List Item) (o : Begun) (os : List Begun) → run_items levels (finish name ∷ items) (within false (o ∷ os)) ≡ Ok (done tree)
      → Closes levels o os (finish name ∷ items) tree
  end_closes name items o os e =
      let r = runs_from (finish name) items (within false (o ∷ os)) e in
      let f = step_finish levels name false o os r.0 r.1 in
      record {
        content = nothing;
        text = [];
        children = [];
        after = items;
        whole = ap (λ (n : List ℕ). finish n ∷ items) f.0;
        has = refl;
        are = refl;
        runs = at items r.0 (placed (element_of (grown o [] [])) os) (f.1 ∙ ap (λ (b : Begun). placed (element_of b) os) (sym (grown_none o))) r.2;
      }

  text_closes : (bytes : List ℕ) (front : List ℕ) (items : List Item) (o : Begun) (os : List Begun) → text_meant bytes ≡ Some front
      → Closes levels (record o { text = o.text ++ front }) os items tree → Closes levels o os (run bytes ∷ items) tree
  text_closes bytes front items o os meant c = record {
    content = text_then bytes c.content;
    text = front ++ c.text;
    children = c.children;
    after = c.after;
    whole = ap (λ (xs : List Item). run bytes ∷ xs) c.whole;
    has = (front, c.text, meant, c.has, refl);
    are = c.are;
    runs = at c.after (placed (element_of (grown (record o { text = o.text ++ front }) c.text c.children)) os) (placed (element_of (grown o (front ++ c.text) c.children)) os)
        (ap (λ (b : Begun). placed (element_of b) os) (more_text o front c.text c.children (front ++ c.text) refl)) c.runs;
  }

  comment_closes : (bytes : List ℕ) (items : List Item) (o : Begun) (os : List Begun) → is_xml bytes ≡ true
      → Closes levels o os items tree → Closes levels o os (comment bytes ∷ items) tree
  comment_closes bytes items o os xml c = record {
    content = comment_then bytes c.content;
    text = c.text;
    children = c.children;
    after = c.after;
    whole = ap (λ (xs : List Item). comment bytes ∷ xs) c.whole;
    has = (xml, c.has);
    are = c.are;
    runs = c.runs;
  }

  node_closes : (n : Node) (e : Element) (items later_items : List Item) (o : Begun) (os : List Begun) → items ≡ items_of n ++ later_items
      → IsTree levels (suc (length os)) (o.declared ++ scope_of os) n e
      → Closes levels (record o { children = o.children ++ e ∷ [] }) os later_items tree → Closes levels o os items tree
  node_closes n e items later_items o os split is c = record {
    content = node_then n c.content;
    text = c.text;
    children = e ∷ c.children;
    after = c.after;
    whole = split ∙ (ap (λ (xs : List Item). items_of n ++ xs) c.whole ∙ sym (append_assoc (items_of n) (items_in c.content) (finish o.name ∷ c.after)));
    has = c.has;
    are = (e, c.children, is, c.are, refl);
    runs = at c.after (placed (element_of (grown (record o { children = o.children ++ e ∷ [] }) c.text c.children)) os) (placed (element_of (grown o c.text (e ∷ c.children))) os)
        (ap (λ (b : Begun). placed (element_of b) os) (more_children o c.text e c.children (e ∷ c.children) refl)) c.runs;
  }

  tag_is : (tag : Tag) (closed : Bool) → tag.closed ≡ closed → ◌≡◌ {A = Item} (start tag) (start (record { name = tag.name; attributes = tag.attributes; closed = closed }))
  tag_is tag closed e = ap (λ (c : Bool). start (record { name = tag.name; attributes = tag.attributes; closed = c })) e

  node_is : (tag : Tag) (b : Begun) (items : List Item) → tag.closed ≡ false → b.name ≡ tag.name → (content : Content) (after : List Item)
      → items ≡ items_in content ++ finish b.name ∷ after → start tag ∷ items ≡ items_of (node tag.name tag.attributes content) ++ after
  node_is tag b items not_closed name content after whole =
      let first : ◌≡◌ {A = Item} (start tag) (start (record { name = tag.name; attributes = tag.attributes; closed = false })) = tag_is tag false not_closed in
      rw (first, whole, name) (ap (λ (xs : List Item). start (record { name = tag.name; attributes = tag.attributes; closed = false }) ∷ xs) (sym (append_assoc (items_in content) (finish tag.name ∷ []) after)))

  shorter : (n : ℕ) (items : List Item) (content : Content) (name : List ℕ) (after : List Item) → length items ≤ n → items ≡ items_in content ++ finish name ∷ after → length after ≤ n
  shorter n items content name after le whole = omega (arith, ap length whole, length-append (items_in content) (finish name ∷ after))

  no_declaration : (items : List Item) (o : Begun) (os : List Begun) → run_items levels (declaration ∷ items) (within false (o ∷ os)) ≡ Ok (done tree) → ⊥
  unfolding step
  no_declaration items o os e = cc

  closes : (n : ℕ) (items : List Item) (o : Begun) (os : List Begun) → length items ≤ n → run_items levels items (within false (o ∷ os)) ≡ Ok (done tree) → Closes levels o os items tree
  closes n [] o os le e = absurd (not_done o os e)
  closes zero (item ∷ items) o os le e = absurd (omega arith)
  closes (suc n) (declaration ∷ items) o os le e = absurd (no_declaration items o os e)
  closes (suc n) (comment bytes ∷ items) o os le e =
      let r = runs_from (comment bytes) items (within false (o ∷ os)) e in
      let c = step_comment levels bytes (within false (o ∷ os)) r.0 r.1 in
      comment_closes bytes items o os c.0 (closes n items o os (omega arith) (at items r.0 (within false (o ∷ os)) c.1 r.2))
  closes (suc n) (run bytes ∷ items) o os le e =
      let r = runs_from (run bytes) items (within false (o ∷ os)) e in
      let t = step_text levels bytes false o os r.0 r.1 in
      let o₂ : Begun = record o { text = o.text ++ t.0 } in
      text_closes bytes t.0 items o os t.1 (closes n items o₂ os (omega arith) (at items r.0 (within false (o₂ ∷ os)) t.2 r.2))
  closes (suc n) (finish name ∷ items) o os le e = end_closes name items o os e
  closes (suc n) (start tag ∷ items) o os le e =
      let r = runs_from (start tag) items (within false (o ∷ os)) e in
      let s = step_start levels tag false (o ∷ os) r.0 r.1 in
      elim (told tag.closed) as (λ _. Closes levels o os (start tag ∷ items) tree) [
        | inl closed ↦
            let o₂ : Begun = record o { children = o.children ++ element_of s.begun ∷ [] } in
            node_closes (leaf tag.name tag.attributes) (element_of s.begun) (start tag ∷ items) items o os
            (ap (λ (x : Item). x ∷ items) (tag_is tag true closed))
            (s.begun, s.below, s.resolved, refl)
            (closes n items o₂ os (omega arith) (at items r.0 (within false (o₂ ∷ os)) (s.is ∙ ap (λ (c : Bool). opened c s.begun (o ∷ os)) closed) r.2))
        | inr not_closed ↦
            let b : Begun = s.begun in
            let inner = closes n items b (o ∷ os) (omega arith) (at items r.0 (within false (b ∷ o ∷ os)) (s.is ∙ ap (λ (c : Bool). opened c b (o ∷ os)) not_closed) r.2) in
            let e₂ : Element = element_of (grown b inner.text inner.children) in
            let o₂ : Begun = record o { children = o.children ++ e₂ ∷ [] } in
            let name = resolve_name (scope_of (o ∷ os)) tag.name tag.attributes b s.resolved in
            node_closes (node tag.name tag.attributes inner.content) e₂ (start tag ∷ items) inner.after o os
            (node_is tag b items not_closed name inner.content inner.after inner.whole)
            (b, inner.text, inner.children, s.below, s.resolved, inner.has, inner.are, refl {a = e₂})
            (closes n inner.after o₂ os (shorter n items inner.content b.name inner.after (omega arith) inner.whole) inner.runs)
      ]

  -- after the root

  outside_with : (x : Item) (xs : List Item) → is_outside x ≡ true → list_all is_outside xs ≡ true → list_all is_outside (x ∷ xs) ≡ true
  outside_with x xs here others = rw (here, others) refl

  behind_step : (item : Item) (root : Element) (s : State) → step levels item (done root) ≡ Ok s → (is_outside item ≡ true) × (s ≡ done root)
  unfolding step is_outside
  behind_step declaration root s e = absurd cc
  behind_step (comment bytes) root s e = unchanged_ok (is_xml bytes) (done root) s e
  behind_step (start tag) root s e = absurd cc
  behind_step (finish name) root s e = absurd cc
  behind_step (run bytes) root s e = unchanged_ok (list_all is_blank bytes) (done root) s e

  done_is : (root : Element) → ok (done root) ≡ ok (done tree) → tree ≡ root
  done_is root e = cc

  behind : (items : List Item) (root : Element) → run_items levels items (done root) ≡ Ok (done tree) → (list_all is_outside items ≡ true) × (tree ≡ root)
  behind [] root e = (refl, done_is root e)
  behind (item ∷ items) root e =
      let r = runs_from item items (done root) e in
      let s = behind_step item root r.0 r.1 in
      let rest = behind items root (at items r.0 (done root) s.1 r.2) in
      (outside_with item items s.0 rest.0, rest.1)

  -- before the root

  pub record Rooted (items : List Item) : Type 0 where
    pub before : List Item
    pub root : Node
    pub after : List Item
    pub whole : items ≡ before ++ (items_of root ++ after)
    pub outside_before : list_all is_outside before ≡ true
    pub outside_after : list_all is_outside after ≡ true
    pub means : IsTree levels 0 [] root tree

  outside_rooted : (item : Item) (items : List Item) → is_outside item ≡ true → Rooted items → Rooted (item ∷ items)
  outside_rooted item items here r = record {
    before = item ∷ r.before;
    root = r.root;
    after = r.after;
    whole = ap (λ (xs : List Item). item ∷ xs) r.whole;
    outside_before = outside_with item r.before here r.outside_before;
    outside_after = r.outside_after;
    means = r.means;
  }

  node_rooted : (n : Node) (items after : List Item) (e : Element) → items ≡ items_of n ++ after → IsTree levels 0 [] n e → run_items levels after (done e) ≡ Ok (done tree) → Rooted items
  node_rooted n items after e split is runs =
      let b = behind after e runs in
      record {
        before = [];
        root = n;
        after = after;
        whole = split;
        outside_before = refl;
        outside_after = b.0;
        means = rw b.1 is;
      }

  start_rooted : (tag : Tag) (items : List Item) → run_items levels (start tag ∷ items) (within false []) ≡ Ok (done tree) → Rooted (start tag ∷ items)
  start_rooted tag items e =
      let r = runs_from (start tag) items (within false []) e in
      let s = step_start levels tag false [] r.0 r.1 in
      let b : Begun = s.begun in
      elim (told tag.closed) as (λ _. Rooted (start tag ∷ items)) [
        | inl closed ↦
            node_rooted (leaf tag.name tag.attributes) (start tag ∷ items) items (element_of b)
            (ap (λ (x : Item). x ∷ items) (tag_is tag true closed)) (b, s.below, s.resolved, refl)
            (at items r.0 (done (element_of b)) (s.is ∙ ap (λ (c : Bool). opened c b []) closed) r.2)
        | inr not_closed ↦
            let inner = closes (length items) items b [] (omega arith) (at items r.0 (within false (b ∷ [])) (s.is ∙ ap (λ (c : Bool). opened c b []) not_closed) r.2) in
            node_rooted (node tag.name tag.attributes inner.content) (start tag ∷ items) inner.after (element_of (grown b inner.text inner.children))
            (node_is tag b items not_closed (resolve_name [] tag.name tag.attributes b s.resolved) inner.content inner.after inner.whole)
            (b, inner.text, inner.children, s.below, s.resolved, inner.has, inner.are, refl {a = element_of (grown b inner.text inner.children)}) inner.runs
      ]

  out_of_place : (item : Item) (items : List Item) → step levels item (within false []) ≡ Err markup → run_items levels (item ∷ items) (within false []) ≡ Ok (done tree) → ⊥
  out_of_place item items fault e =
      let r = runs_from item items (within false []) e in
      faults r.0 (sym fault ∙ r.1)

  rooted : (items : List Item) → run_items levels items (within false []) ≡ Ok (done tree) → Rooted items
  unfolding step is_outside
  rooted [] e = absurd cc
  rooted (declaration ∷ items) e = absurd (out_of_place declaration items refl e)
  rooted (comment bytes ∷ items) e =
      let r = runs_from (comment bytes) items (within false []) e in
      let c = step_comment levels bytes (within false []) r.0 r.1 in
      outside_rooted (comment bytes) items c.0 (rooted items (at items r.0 (within false []) c.1 r.2))
  rooted (run bytes ∷ items) e =
      let r = runs_from (run bytes) items (within false []) e in
      let c = unchanged_ok (list_all is_blank bytes) (within false []) r.0 r.1 in
      outside_rooted (run bytes) items c.0 (rooted items (at items r.0 (within false []) c.1 r.2))
  rooted (finish name ∷ items) e = absurd (out_of_place (finish name) items refl e)
  rooted (start tag ∷ items) e = start_rooted tag items e

  spelled : (declared : Bool) (items : List Item) → Rooted items → Spells levels (opening declared ++ items) tree
  spelled declared items r = record {
    declared = declared;
    before = r.before;
    root = r.root;
    after = r.after;
    whole = ap (λ (xs : List Item). opening declared ++ xs) r.whole;
    outside_before = r.outside_before;
    outside_after = r.outside_after;
    means = r.means;
  }

-- items that are read to the end spell a document
pub runs_spells : (levels : ℕ) (items : List Item) (tree : Element) → run_items levels items nothing_read ≡ Ok (done tree) → Spells levels items tree
unfolding step
runs_spells levels [] tree e = absurd cc
runs_spells levels (declaration ∷ items) tree e = spelled levels tree true items (rooted levels tree items e)
runs_spells levels (comment bytes ∷ items) tree e = spelled levels tree false (comment bytes ∷ items) (rooted levels tree (comment bytes ∷ items) e)
runs_spells levels (run bytes ∷ items) tree e = spelled levels tree false (run bytes ∷ items) (rooted levels tree (run bytes ∷ items) e)
runs_spells levels (finish name ∷ items) tree e = absurd cc
runs_spells levels (start tag ∷ items) tree e = spelled levels tree false (start tag ∷ items) (rooted levels tree (start tag ∷ items) e)
