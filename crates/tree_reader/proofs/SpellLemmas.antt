-- Items that spell a document are read as its tree.
use Rattle.std.proofs.Common.{◌≡◌, ℕ, suc, ◌<◌, Bool, true, false, cond, List, [], ◌∷◌, ◌++◌, Some, Result, Ok, Err, length, refl, sym, ap, ◌∙◌, append_assoc}
use Rattle.std.proofs.lemmas.Bool.{lt-ltb, and_parts}
use Rattle.std.proofs.lemmas.Slice.Eq.{bytes_eq-Decides}
use Rattle.std.specs.List.{list_all}
use Rattle.as4_values.specs.Texts.{is_xml}
use Rattle.byte_forms.specs.Classes.{is_blank}
use Rattle.as4_envelope.specs.declared.tree.Element.{Element}
use Rattle.xml_items.specs.Items.{Tag, Item, declaration, comment, start, finish, run}
use Rattle.tree_reader.specs.Decoded.{text_meant}
use Rattle.tree_reader.specs.Scopes.{Begun, element_of, scope_of, resolve}
use Rattle.tree_reader.specs.Reading.{Fault, markup, too_deep, State, within, done, placed, opened, begins, with_text, later, unchanged, step, then_run, run_items, nothing_read}
use Rattle.tree_reader.specs.Trees.{Node, node, leaf, Content, nothing, text_then, comment_then, node_then, items_of, items_in, HasText, grown, IsTree, AreTrees, is_outside, opening, Spells}
use Rattle.tree_reader.proofs.StepLemmas.{ok, resolve_name, grown_none}

-- each item that is allowed at its place is a step

pub start_steps : (levels : ℕ) (tag : Tag) (first : Bool) (os : List Begun) (o : Begun) → length os < levels
    → resolve (scope_of os) tag.name tag.attributes ≡ Some o → step levels (start tag) (within first os) ≡ Ok (opened tag.closed o os)
unfolding step
start_steps levels tag first os o below resolved =
    let test = lt-ltb (length os) levels below in
    ap (begins levels tag.closed os) resolved ∙ ap (λ (b : Bool). cond b (ok (opened tag.closed o os)) (Err too_deep)) test

pub text_steps : (levels : ℕ) (bytes : List ℕ) (first : Bool) (o : Begun) (os : List Begun) (text : List ℕ) → text_meant bytes ≡ Some text
    → step levels (run bytes) (within first (o ∷ os)) ≡ Ok (within false (record o { text = o.text ++ text } ∷ os))
unfolding step
text_steps levels bytes first o os text meant = ap (with_text o os) meant

right_steps : (right : Bool) (state : State) → right ≡ true → unchanged right state ≡ Ok (later state)
right_steps right state e = ap (λ (b : Bool). unchanged b state) e

comment_steps : (levels : ℕ) (text : List ℕ) (state : State) → is_xml text ≡ true → step levels (comment text) state ≡ Ok (later state)
unfolding step
comment_steps levels text state xml = right_steps (is_xml text) state xml

pub finish_steps : (levels : ℕ) (name : List ℕ) (first : Bool) (o : Begun) (os : List Begun) → o.name ≡ name
    → step levels (finish name) (within first (o ∷ os)) ≡ Ok (placed (element_of o) os)
unfolding step
finish_steps levels name first o os same =
    ap (λ (b : Bool). cond b (ok (placed (element_of o) os)) (Err markup)) ((bytes_eq-Decides name o.name).1 (sym same))

-- an item, and then others
pub goes : (levels : ℕ) (item : Item) (items : List Item) (s t : State) → step levels item s ≡ Ok t → run_items levels (item ∷ items) s ≡ run_items levels items t
goes levels item items s t e = ap (λ (r : Result State Fault). then_run r (run_items levels items)) e

pub at_state : (levels : ℕ) (items : List Item) (s t : State) → s ≡ t → run_items levels items s ≡ run_items levels items t
at_state levels items s t e = ap (run_items levels items) e

pub at_items : (levels : ℕ) (xs ys : List Item) (s : State) → xs ≡ ys → run_items levels xs s ≡ run_items levels ys s
at_items levels xs ys s e = ap (λ (items : List Item). run_items levels items s) e

pub more_text : (o : Begun) (front back : List ℕ) (es : List Element) (text : List ℕ) → text ≡ front ++ back
    → grown (record o { text = o.text ++ front }) back es ≡ grown o text es
more_text o front back es text e = rw (e, append_assoc o.text front back) refl

pub more_children : (o : Begun) (text : List ℕ) (e : Element) (others es : List Element) → es ≡ e ∷ others
    → grown (record o { children = o.children ++ e ∷ [] }) text others ≡ grown o text es
more_children o text e others es is = rw (is, append_assoc o.children (e ∷ []) others) refl

none_more : (o : Begun) (text : List ℕ) (es : List Element) → text ≡ [] → es ≡ [] → o ≡ grown o text es
none_more o text es no_text childless = rw (no_text, childless) (sym (grown_none o))

mutual
  tree_runs : (n : Node) (levels : ℕ) (first : Bool) (os : List Begun) (e : Element) (more : List Item) → IsTree levels (length os) (scope_of os) n e
      → run_items levels (items_of n ++ more) (within first os) ≡ run_items levels more (placed e os)
  tree_runs (leaf name attributes) levels first os e more is =
      goes levels (start (record { name = name; attributes = attributes; closed = true })) more (within first os) (placed (element_of is.0) os)
      (start_steps levels (record { name = name; attributes = attributes; closed = true }) first os is.0 is.1 is.2)
      ∙ at_state levels more (placed (element_of is.0) os) (placed e os) (ap (λ (x : Element). placed x os) (sym is.3))
  tree_runs (node name attributes content) levels first os e more is =
      let o : Begun = is.0 in
      let tag : Tag = record { name = name; attributes = attributes; closed = false } in
      let last : Begun = grown o is.1 is.2 in
      goes levels (start tag) ((items_in content ++ finish name ∷ []) ++ more) (within first os) (within false (o ∷ os))
      (start_steps levels tag first os o is.3 is.4)
      ∙ at_items levels ((items_in content ++ finish name ∷ []) ++ more) (items_in content ++ (finish name ∷ more)) (within false (o ∷ os)) (append_assoc (items_in content) (finish name ∷ []) more)
      ∙ content_runs content levels o os is.1 is.2 (finish name ∷ more) is.5 is.6
      ∙ goes levels (finish name) more (within false (last ∷ os)) (placed (element_of last) os) (finish_steps levels name false last os (resolve_name (scope_of os) name attributes o is.4))
      ∙ at_state levels more (placed (element_of last) os) (placed e os) (ap (λ (x : Element). placed x os) (sym is.7))

  content_runs : (content : Content) (levels : ℕ) (o : Begun) (os : List Begun) (text : List ℕ) (es : List Element) (more : List Item)
      → HasText content text → AreTrees levels (suc (length os)) (o.declared ++ scope_of os) content es
      → run_items levels (items_in content ++ more) (within false (o ∷ os)) ≡ run_items levels more (within false (grown o text es ∷ os))
  content_runs nothing levels o os text es more has are =
      at_state levels more (within false (o ∷ os)) (within false (grown o text es ∷ os)) (ap (λ (x : Begun). within false (x ∷ os)) (none_more o text es has are))
  content_runs (text_then bytes content) levels o os text es more has are =
      let o₂ : Begun = record o { text = o.text ++ has.0 } in
      goes levels (run bytes) (items_in content ++ more) (within false (o ∷ os)) (within false (o₂ ∷ os)) (text_steps levels bytes false o os has.0 has.2)
      ∙ content_runs content levels o₂ os has.1 es more has.3 are
      ∙ at_state levels more (within false (grown o₂ has.1 es ∷ os)) (within false (grown o text es ∷ os)) (ap (λ (x : Begun). within false (x ∷ os)) (more_text o has.0 has.1 es text has.4))
  content_runs (comment_then bytes content) levels o os text es more has are =
      goes levels (comment bytes) (items_in content ++ more) (within false (o ∷ os)) (within false (o ∷ os)) (comment_steps levels bytes (within false (o ∷ os)) has.0)
      ∙ content_runs content levels o os text es more has.1 are
  content_runs (node_then n content) levels o os text es more has are =
      let o₂ : Begun = record o { children = o.children ++ are.0 ∷ [] } in
      at_items levels ((items_of n ++ items_in content) ++ more) (items_of n ++ (items_in content ++ more)) (within false (o ∷ os)) (append_assoc (items_of n) (items_in content) more)
      ∙ tree_runs n levels false (o ∷ os) are.0 (items_in content ++ more) are.2
      ∙ content_runs content levels o₂ os text are.1 more has are.3
      ∙ at_state levels more (within false (grown o₂ text are.1 ∷ os)) (within false (grown o text es ∷ os)) (ap (λ (x : Begun). within false (x ∷ os)) (more_children o text are.0 are.1 es are.4))

-- outside of the root

-- a state in which nothing is open
pub data Unopened : State → Type 0 where
  before_root : (first : Bool) → Unopened (within first [])
  behind_root : (root : Element) → Unopened (done root)

outside_steps : (levels : ℕ) (item : Item) (s : State) → Unopened s → is_outside item ≡ true → step levels item s ≡ Ok (later s)
unfolding step is_outside
outside_steps levels declaration s un is = absurd cc
outside_steps levels (comment text) s un is = right_steps (is_xml text) s is
outside_steps levels (start tag) s un is = absurd cc
outside_steps levels (finish name) s un is = absurd cc
outside_steps levels (run bytes) _ (before_root first) is = right_steps (list_all is_blank bytes) (within first []) is
outside_steps levels (run bytes) _ (behind_root root) is = right_steps (list_all is_blank bytes) (done root) is

-- after the root nothing changes
behind_passes : (levels : ℕ) (xs : List Item) (root : Element) → list_all is_outside xs ≡ true → run_items levels xs (done root) ≡ Ok (done root)
behind_passes levels [] root all = refl
behind_passes levels (x ∷ xs) root all =
    let split = and_parts (is_outside x) (list_all is_outside xs) all in
    goes levels x xs (done root) (done root) (outside_steps levels x (done root) (behind_root root) split.0) ∙ behind_passes levels xs root split.1

-- before it, only the flag of a first item changes
before_passes : (levels : ℕ) (xs : List Item) (first : Bool) → list_all is_outside xs ≡ true
    → (f : Bool) × ((more : List Item) → run_items levels (xs ++ more) (within first []) ≡ run_items levels more (within f []))
before_passes levels [] first all = (first, λ more. refl)
before_passes levels (x ∷ xs) first all =
    let split = and_parts (is_outside x) (list_all is_outside xs) all in
    let rest = before_passes levels xs false split.1 in
    (rest.0, λ more. goes levels x (xs ++ more) (within first []) (within false []) (outside_steps levels x (within first []) (before_root first) split.0) ∙ rest.1 more)

opening_passes : (levels : ℕ) (declared : Bool) (more : List Item) → (f : Bool) × (run_items levels (opening declared ++ more) nothing_read ≡ run_items levels more (within f []))
unfolding step
opening_passes levels true more = (false, refl)
opening_passes levels false more = (true, refl)

-- a document is read as its tree
pub spells_runs : (levels : ℕ) (items : List Item) (tree : Element) → Spells levels items tree → run_items levels items nothing_read ≡ Ok (done tree)
spells_runs levels items tree spells =
    let body : List Item = items_of spells.root ++ spells.after in
    let opened = opening_passes levels spells.declared (spells.before ++ body) in
    let before = before_passes levels spells.before opened.0 spells.outside_before in
    at_items levels items (opening spells.declared ++ (spells.before ++ body)) nothing_read spells.whole
    ∙ opened.1
    ∙ before.1 body
    ∙ tree_runs spells.root levels before.0 [] tree spells.after spells.means
    ∙ behind_passes levels spells.after tree spells.outside_after
