-- Successful steps, taken apart.
use Rattle.std.proofs.Common.{◌≡◌, ℕ, ◌<◌, Bool, true, false, cond, ltb, List, [], ◌∷◌, ◌++◌, Option, Some, None, Result, Ok, Err, length, refl, sym, ap, append-nil}
use Rattle.std.proofs.lemmas.Bool.{ltb-true}
use Rattle.std.proofs.lemmas.Slice.Eq.{bytes_eq-Decides}
use Rattle.std.specs.Str.{bytes_eq}
use Rattle.as4_values.specs.Texts.{is_xml}
use Rattle.xml_items.specs.Items.{Written, Tag, Item, comment, start, finish, run}
use Rattle.byte_forms.specs.Cuts.{◌>>=◌}
use Rattle.tree_reader.specs.Steps.{given, gathered}
use Rattle.tree_reader.specs.Names.{qualified}
use Rattle.tree_reader.specs.Decoded.{text_meant}
use Rattle.tree_reader.specs.Scopes.{Binding, Begun, element_of, scope_of, declared_by, element_space, attribute_by, written_differ, resolve}
use Rattle.as4_envelope.specs.Writable.{names_differ}
use Rattle.tree_reader.specs.Reading.{Fault, markup, too_deep, State, within, placed, opened, begins, with_text, later, unchanged, step, then_run, run_items}
use Rattle.tree_reader.specs.Trees.{grown}

-- the value of a successful step
pub bind_some : {A B : Type 0} (o : Option A) (f : A → Option B) (y : B) → (o >>= f) ≡ Some y → (x : A) × (o ≡ Some x) × (f x ≡ Some y)
bind_some None f y e = absurd cc
bind_some (Some x) f y e = (x, refl, e)

pub given_some : {A : Type 0} (test : Bool) (o : Option A) (y : A) → given test o ≡ Some y → (test ≡ true) × (o ≡ Some y)
given_some false o y e = absurd cc
given_some true o y e = (refl, e)

pub some_is : {A : Type 0} (x y : A) → Some x ≡ Some y → x ≡ y
some_is x y e = cc

abbrev pub ok : State → Result State Fault
ok s = Ok s

pub then_ok : (r : Result State Fault) (f : State → Result State Fault) (t : State) → then_run r f ≡ Ok t → (s : State) × (r ≡ Ok s) × (f s ≡ Ok t)
then_ok (Ok s) f t e = (s, refl, e)
then_ok (Err d) f t e = absurd cc

then_assoc : (r : Result State Fault) (f g h : State → Result State Fault) → ((s : State) → f s ≡ then_run (g s) h) → then_run r f ≡ then_run (then_run r g) h
then_assoc (Ok s) f g h e = e s
then_assoc (Err d) f g h e = refl

pub run-append : (levels : ℕ) (xs ys : List Item) (s : State) → run_items levels (xs ++ ys) s ≡ then_run (run_items levels xs s) (run_items levels ys)
run-append levels [] ys s = refl
run-append levels (x ∷ xs) ys s =
    then_assoc (step levels x s) (run_items levels (xs ++ ys)) (run_items levels xs) (run_items levels ys) (run-append levels xs ys)

-- an element keeps its written name
pub resolve_name : (scope : List Binding) (name : List ℕ) (attributes : List Written) (o : Begun) → resolve scope name attributes ≡ Some o → o.name ≡ name
unfolding resolve
resolve_name scope name attributes o e =
    let g = given_some (written_differ attributes) _ o e in
    let d = bind_some (gathered declared_by attributes) _ o g.1 in
    let q = bind_some (qualified name) _ o d.2 in
    let s = bind_some (element_space (d.0 ++ scope) q.0.prefix) _ o q.2 in
    let a = bind_some (gathered (attribute_by (d.0 ++ scope)) attributes) _ o s.2 in
    let r = given_some (names_differ a.0) _ o a.2 in
    sym (ap (λ (b : Begun). b.name) (some_is _ o r.1))

-- what a successful step implies

pub record Opens (levels : ℕ) (tag : Tag) (os : List Begun) (s : State) : Type 0 where
  pub begun : Begun
  pub resolved : resolve (scope_of os) tag.name tag.attributes ≡ Some begun
  pub below : length os < levels
  pub is : s ≡ opened tag.closed begun os

chosen_ok : (b : Bool) (r : Result State Fault) (d : Fault) (s : State) → cond b r (Err d) ≡ Ok s → (b ≡ true) × (r ≡ Ok s)
chosen_ok true r d s e = (refl, e)
chosen_ok false r d s e = absurd cc

pub ok_is : (s t : State) → ok s ≡ ok t → s ≡ t
ok_is s t e = cc

begins_ok : (levels : ℕ) (closed : Bool) (os : List Begun) (r : Option Begun) (s : State) → begins levels closed os r ≡ Ok s → (o : Begun) × (r ≡ Some o) × (length os < levels) × (s ≡ opened closed o os)
begins_ok levels closed os None s e = absurd cc
begins_ok levels closed os (Some o) s e =
    let c = chosen_ok (ltb (length os) levels) (ok (opened closed o os)) too_deep s e in
    (o, refl, ltb-true (length os) levels c.0, sym (ok_is (opened closed o os) s c.1))

pub step_start : (levels : ℕ) (tag : Tag) (first : Bool) (os : List Begun) (s : State) → step levels (start tag) (within first os) ≡ Ok s → Opens levels tag os s
unfolding step
step_start levels tag first os s e =
    let b = begins_ok levels tag.closed os (resolve (scope_of os) tag.name tag.attributes) s e in
    record { begun = b.0; resolved = b.1; below = b.2; is = b.3 }

text_ok : (o : Begun) (os : List Begun) (r : Option (List ℕ)) (s : State) → with_text o os r ≡ Ok s → (text : List ℕ) × (r ≡ Some text) × (s ≡ within false (record o { text = o.text ++ text } ∷ os))
text_ok o os None s e = absurd cc
text_ok o os (Some text) s e = (text, refl, sym (ok_is _ s e))

pub step_text : (levels : ℕ) (bytes : List ℕ) (first : Bool) (o : Begun) (os : List Begun) (s : State) → step levels (run bytes) (within first (o ∷ os)) ≡ Ok s
    → (text : List ℕ) × (text_meant bytes ≡ Some text) × (s ≡ within false (record o { text = o.text ++ text } ∷ os))
unfolding step
step_text levels bytes first o os s e = text_ok o os (text_meant bytes) s e

pub unchanged_ok : (right : Bool) (state s : State) → unchanged right state ≡ Ok s → (right ≡ true) × (s ≡ later state)
unchanged_ok right state s e =
    let c = chosen_ok right (ok (later state)) markup s e in
    (c.0, sym (ok_is (later state) s c.1))

pub step_comment : (levels : ℕ) (text : List ℕ) (state s : State) → step levels (comment text) state ≡ Ok s → (is_xml text ≡ true) × (s ≡ later state)
unfolding step
step_comment levels text state s e = unchanged_ok (is_xml text) state s e

pub step_finish : (levels : ℕ) (name : List ℕ) (first : Bool) (o : Begun) (os : List Begun) (s : State) → step levels (finish name) (within first (o ∷ os)) ≡ Ok s
    → (name ≡ o.name) × (s ≡ placed (element_of o) os)
unfolding step
step_finish levels name first o os s e =
    let c = chosen_ok (bytes_eq name o.name) (ok (placed (element_of o) os)) markup s e in
    ((bytes_eq-Decides name o.name).0 c.0, sym (ok_is (placed (element_of o) os) s c.1))

-- an open element with nothing more
pub grown_none : (o : Begun) → grown o [] [] ≡ o
grown_none o = rw (append-nil o.text, append-nil o.children) refl
