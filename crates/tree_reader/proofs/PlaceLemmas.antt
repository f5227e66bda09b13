-- Prefixes of documents: the items read so far begin a document, and an item that isn't a step doesn't continue one.
use Rattle.std.proofs.Common.{◌≡◌, ℕ, ◌+◌, ◌<◌, ◌≤◌, Bool, true, false, cond, ltb, List, [], ◌∷◌, ◌++◌, Option, Some, None, Result, Ok, Err, length, inl, inr, refl, sym, ap, ◌∙◌, append_assoc, arith}
use Rattle.std.proofs.lemmas.Bool.{lt-ltb, ltb-true}
use Rattle.std.proofs.lemmas.Str.{is_utf8-from_IsUtf8}
use Rattle.std.specs.Char.{encode_utf8}
use Rattle.std.specs.Str.{bytes_eq, is_utf8}
use Rattle.as4_envelope.specs.declared.tree.Element.{Element}
use Rattle.xml_items.specs.Items.{Tag, Item, declaration, comment, start, finish, run}
use Rattle.tree_reader.specs.Names.{is_local_name, qualified}
use Rattle.tree_reader.specs.Decoded.{text_meant}
use Rattle.tree_reader.specs.Scopes.{Begun, element_of, scope_of, element_space, resolve}
use Rattle.tree_reader.specs.Reading.{Fault, markup, too_deep, State, within, done, placed, opened, begins, with_text, later, unchanged, step, then_run, run_items, nothing_read}
use Rattle.tree_reader.specs.Trees.{Begins}
use Rattle.tree_reader.proofs.TextLemmas.{told}
use Rattle.tree_reader.proofs.StepLemmas.{ok, ok_is, then_ok, run-append, step_start, step_text, step_comment, step_finish, unchanged_ok}
use Rattle.tree_reader.proofs.SpellLemmas.{goes, at_items, start_steps, finish_steps, spells_runs}
use Rattle.tree_reader.proofs.TreeLemmas.{runs_spells}

-- a step remains one with more levels

fault_is_ok : (d : Fault) (t : State) → ◌≡◌ {A = Result State Fault} (Err d) (Ok t) → ⊥
fault_is_ok d t e = cc

two_faults : ◌≡◌ {A = Result State Fault} (Err markup) (Err too_deep) → ⊥
two_faults e = cc

begins_deeper : (levels more : ℕ) (closed : Bool) (os : List Begun) (o : Option Begun) (t : State) → levels ≤ more → begins levels closed os o ≡ Ok t → begins more closed os o ≡ Ok t
begins_deeper levels more closed os None t le e = absurd cc
begins_deeper levels more closed os (Some o) t le e =
    elim (told (ltb (length os) levels)) as (λ _. begins more closed os (Some o) ≡ Ok t) [
      | inl below ↦
          let deeper : ltb (length os) more ≡ true = lt-ltb _ _ (omega (arith, ltb-true (length os) levels below)) in
          rw deeper (rw below at e)
      | inr full ↦ absurd (fault_is_ok too_deep t (rw full at e))
    ]

step_deeper : (levels more : ℕ) (item : Item) (s t : State) → levels ≤ more → step levels item s ≡ Ok t → step more item s ≡ Ok t
unfolding step
step_deeper levels more declaration (within first os) t le e = e
step_deeper levels more declaration (done root) t le e = e
step_deeper levels more (comment text) s t le e = e
step_deeper levels more (run bytes) (within first []) t le e = e
step_deeper levels more (run bytes) (within first (o ∷ os)) t le e = e
step_deeper levels more (run bytes) (done root) t le e = e
step_deeper levels more (start tag) (within first os) t le e = begins_deeper levels more tag.closed os (resolve (scope_of os) tag.name tag.attributes) t le e
step_deeper levels more (start tag) (done root) t le e = e
step_deeper levels more (finish name) (within first []) t le e = e
step_deeper levels more (finish name) (within first (o ∷ os)) t le e = e
step_deeper levels more (finish name) (done root) t le e = e

pub run_deeper : (levels more : ℕ) (items : List Item) (s t : State) → levels ≤ more → run_items levels items s ≡ Ok t → run_items more items s ≡ Ok t
run_deeper levels more [] s t le e = e
run_deeper levels more (item ∷ items) s t le e =
    let r = then_ok (step levels item s) (run_items levels items) t e in
    goes more item items s r.0 (step_deeper levels more item s r.0 le r.1) ∙ run_deeper levels more items r.0 t le r.2

-- markup that is wrong remains wrong with more levels

begins_markup : (levels more : ℕ) (closed : Bool) (os : List Begun) (o : Option Begun) → begins levels closed os o ≡ Err markup → begins more closed os o ≡ Err markup
begins_markup levels more closed os None e = refl
begins_markup levels more closed os (Some o) e =
    elim (told (ltb (length os) levels)) as (λ _. begins more closed os (Some o) ≡ Err markup) [
      | inl below ↦ absurd (fault_is_ok markup (opened closed o os) (sym (rw below at e)))
      | inr full ↦ absurd (two_faults (sym (rw full at e)))
    ]

pub step_markup : (levels more : ℕ) (item : Item) (s : State) → step levels item s ≡ Err markup → step more item s ≡ Err markup
unfolding step
step_markup levels more declaration (within first os) e = e
step_markup levels more declaration (done root) e = e
step_markup levels more (comment text) s e = e
step_markup levels more (run bytes) (within first []) e = e
step_markup levels more (run bytes) (within first (o ∷ os)) e = e
step_markup levels more (run bytes) (done root) e = e
step_markup levels more (start tag) (within first os) e = begins_markup levels more tag.closed os (resolve (scope_of os) tag.name tag.attributes) e
step_markup levels more (start tag) (done root) e = e
step_markup levels more (finish name) (within first []) e = e
step_markup levels more (finish name) (within first (o ∷ os)) e = e
step_markup levels more (finish name) (done root) e = e

-- the number of open elements is at most the number of levels

abbrev pub depth : State → ℕ
depth (within first os) = length os
depth (done root) = 0

placed_depth : (levels : ℕ) (e : Element) (os : List Begun) → length os ≤ levels → depth (placed e os) ≤ levels
placed_depth levels e [] le = omega arith
placed_depth levels e (o ∷ os) le = le

opened_depth : (levels : ℕ) (closed : Bool) (o : Begun) (os : List Begun) → length os < levels → depth (opened closed o os) ≤ levels
opened_depth levels true o os below = placed_depth levels (element_of o) os (omega arith)
opened_depth levels false o os below = omega arith

later_depth : (levels : ℕ) (s : State) → depth s ≤ levels → depth (later s) ≤ levels
later_depth levels (within first os) le = le
later_depth levels (done root) le = le

by_state : (levels : ℕ) (s t : State) → s ≡ t → depth t ≤ levels → depth s ≤ levels
by_state levels s t e le = rw e le

step_depth : (levels : ℕ) (item : Item) (s t : State) → depth s ≤ levels → step levels item s ≡ Ok t → depth t ≤ levels
unfolding step
step_depth levels declaration (within first os) t le e = by_state levels t (within false os) (unchanged_ok first (within first os) t e).1 le
step_depth levels declaration (done root) t le e = absurd (fault_is_ok markup t e)
step_depth levels (comment text) s t le e = by_state levels t (later s) (step_comment levels text s t e).1 (later_depth levels s le)
step_depth levels (run bytes) (within first []) t le e = by_state levels t (within false []) (unchanged_ok _ (within first []) t e).1 le
step_depth levels (run bytes) (within first (o ∷ os)) t le e =
    let r = step_text levels bytes first o os t e in
    by_state levels t (within false (record o { text = o.text ++ r.0 } ∷ os)) r.2 le
step_depth levels (run bytes) (done root) t le e = by_state levels t (done root) (unchanged_ok _ (done root) t e).1 le
step_depth levels (start tag) (within first os) t le e =
    let r = step_start levels tag first os t e in
    by_state levels t (opened tag.closed r.begun os) r.is (opened_depth levels tag.closed r.begun os r.below)
step_depth levels (start tag) (done root) t le e = absurd (fault_is_ok markup t e)
step_depth levels (finish name) (within first []) t le e = absurd (fault_is_ok markup t e)
step_depth levels (finish name) (within first (o ∷ os)) t le e =
    by_state levels t (placed (element_of o) os) (step_finish levels name first o os t e).1 (placed_depth levels (element_of o) os (omega arith))
step_depth levels (finish name) (done root) t le e = absurd (fault_is_ok markup t e)

pub run_depth : (levels : ℕ) (items : List Item) (s t : State) → depth s ≤ levels → run_items levels items s ≡ Ok t → depth t ≤ levels
run_depth levels [] s t le e = by_state levels t s (sym (ok_is s t e)) le
run_depth levels (item ∷ items) s t le e =
    let r = then_ok (step levels item s) (run_items levels items) t e in
    run_depth levels items r.0 t (step_depth levels item s r.0 le r.1) r.2

-- a tag that is too deep is right with one more level

begins_too_deep : (levels : ℕ) (closed : Bool) (os : List Begun) (o : Option Begun) → length os ≤ levels → begins levels closed os o ≡ Err too_deep
    → (t : State) × (begins (levels + 1) closed os o ≡ Ok t)
begins_too_deep levels closed os None le e = absurd (two_faults e)
begins_too_deep levels closed os (Some o) le e =
    let deeper : ltb (length os) (levels + 1) ≡ true = lt-ltb _ _ (omega arith) in
    (opened closed o os, rw deeper refl)

no_too_deep : (right : Bool) (s : State) → unchanged right s ≡ Err too_deep → ⊥
no_too_deep true s e = absurd (fault_is_ok too_deep (later s) (sym e))
no_too_deep false s e = two_faults e

text_not_deep : (o : Begun) (os : List Begun) (r : Option (List ℕ)) → with_text o os r ≡ Err too_deep → ⊥
text_not_deep o os None e = two_faults e
text_not_deep o os (Some text) e = fault_is_ok too_deep (within false (record o { text = o.text ++ text } ∷ os)) (sym e)

end_not_deep : (same : Bool) (s : State) → cond same (ok s) (Err markup) ≡ Err too_deep → ⊥
end_not_deep true s e = fault_is_ok too_deep s (sym e)
end_not_deep false s e = two_faults e

pub step_too_deep : (levels : ℕ) (item : Item) (s : State) → depth s ≤ levels → step levels item s ≡ Err too_deep → (t : State) × (step (levels + 1) item s ≡ Ok t)
unfolding step
step_too_deep levels declaration (within first os) le e = absurd (no_too_deep first (within first os) e)
step_too_deep levels declaration (done root) le e = absurd (two_faults e)
step_too_deep levels (comment text) s le e = absurd (no_too_deep _ s e)
step_too_deep levels (run bytes) (within first []) le e = absurd (no_too_deep _ (within first []) e)
step_too_deep levels (run bytes) (within first (o ∷ os)) le e = absurd (text_not_deep o os (text_meant bytes) e)
step_too_deep levels (run bytes) (done root) le e = absurd (no_too_deep _ (done root) e)
step_too_deep levels (start tag) (within first os) le e = begins_too_deep levels tag.closed os (resolve (scope_of os) tag.name tag.attributes) le e
step_too_deep levels (start tag) (done root) le e = absurd (two_faults e)
step_too_deep levels (finish name) (within first []) le e = absurd (two_faults e)
step_too_deep levels (finish name) (within first (o ∷ os)) le e = absurd (end_not_deep (bytes_eq name o.name) (placed (element_of o) os) e)
step_too_deep levels (finish name) (done root) le e = absurd (two_faults e)

-- the missing end tags complete a document

ends : (levels : ℕ) (os : List Begun) (e : Element) → (more : List Item) × (tree : Element) × (run_items levels more (placed e os) ≡ Ok (done tree))
ends levels [] e = ([], e, refl)
ends levels (o ∷ os) e =
    let o₂ : Begun = record o { children = o.children ++ e ∷ [] } in
    let rest = ends levels os (element_of o₂) in
    (finish o.name ∷ rest.0, rest.1, goes levels (finish o.name) rest.0 (within false (o₂ ∷ os)) (placed (element_of o₂) os) (finish_steps levels o.name false o₂ os refl) ∙ rest.2)

letter_utf8 : is_utf8 (97 ∷ []) ≡ true
unfolding encode_utf8
letter_utf8 = is_utf8-from_IsUtf8 (97 ∷ []) ((97 ∷ []), (refl, refl))

-- an element with a single tag
lone : resolve [] (97 ∷ []) [] ≡ Some (record { name = 97 ∷ []; declared = []; space = []; local = 97 ∷ []; attributes = []; text = []; children = [] })
unfolding resolve qualified is_local_name element_space
lone = rw letter_utf8 refl

goes_on : (levels : ℕ) (s : State) → 0 < levels → (more : List Item) × (tree : Element) × (run_items levels more s ≡ Ok (done tree))
goes_on levels (within first []) some =
    let tag : Tag = record { name = 97 ∷ []; attributes = []; closed = true } in
    let o : Begun = record { name = 97 ∷ []; declared = []; space = []; local = 97 ∷ []; attributes = []; text = []; children = [] } in
    (start tag ∷ [], element_of o, goes levels (start tag) [] (within first []) (done (element_of o)) (start_steps levels tag first [] o some lone))
goes_on levels (within first (o ∷ os)) some =
    let rest = ends levels os (element_of o) in
    (finish o.name ∷ rest.0, rest.1, goes levels (finish o.name) rest.0 (within first (o ∷ os)) (placed (element_of o) os) (finish_steps levels o.name first o os refl) ∙ rest.2)
goes_on levels (done root) some = ([], root, refl)

-- the items read so far begin a document
pub run_begins : (levels : ℕ) (items : List Item) (s : State) → 0 < levels → run_items levels items nothing_read ≡ Ok s → Begins levels items
run_begins levels items s some e =
    let more = goes_on levels s some in (
      more.0,
      more.1,
      runs_spells levels (items ++ more.0) more.1
          (run-append levels items more.0 nothing_read ∙ (ap (λ (r : Result State Fault). then_run r (run_items levels more.0)) e ∙ more.2)),
    )

-- an item that isn't a step continues no document
pub no_step : (levels : ℕ) (items : List Item) (s : State) (item : Item) (d : Fault) → run_items levels items nothing_read ≡ Ok s → step levels item s ≡ Err d
    → ¬ (Begins levels (items ++ item ∷ []))
no_step levels items s item d e fault begins_so =
    let runs = spells_runs levels ((items ++ item ∷ []) ++ begins_so.0) begins_so.1 begins_so.2 in
    let fails : run_items levels ((items ++ item ∷ []) ++ begins_so.0) nothing_read ≡ Err d =
    at_items levels ((items ++ item ∷ []) ++ begins_so.0) (items ++ (item ∷ begins_so.0)) nothing_read (append_assoc items (item ∷ []) begins_so.0)
    ∙ (run-append levels items (item ∷ begins_so.0) nothing_read
    ∙ (ap (λ (r : Result State Fault). then_run r (run_items levels (item ∷ begins_so.0))) e
    ∙ ap (λ (r : Result State Fault). then_run r (run_items levels begins_so.0)) fault)) in
    fault_is_ok d (done begins_so.1) (sym fails ∙ runs)
