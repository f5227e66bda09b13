-- What the loop has read, in terms of documents.
use Rattle.std.proofs.Common.{◌≡◌, ℕ, ◌+◌, ◌<◌, ◌≤◌, List, [], ◌∷◌, ◌++◌, map, drop, take, cond, Option, Some, None, Result, Ok, Err, length, inl, inr, refl, sym, ap, ◌∙◌, arith, length-drop}
use Rattle.std.proofs.lemmas.List.{map-append}
use Rattle.std.specs.Str.{bytes_eq}
use Rattle.as4_envelope.specs.declared.tree.Element.{Element}
use Rattle.xml_items.specs.Items.{Item}
use Rattle.xml_items.specs.Cutting.{item_at}
use Rattle.xml_items.specs.Grammar.{WrittenItem, print_item, meaning, IsItem}
use Rattle.xml_items.proofs.ItemLaws.{item_takes, item_shortens}
use Rattle.tree_reader.specs.Reading.{Fault, markup, too_deep, State, done, step, then_run, run_items, nothing_read}
use Rattle.tree_reader.specs.Documents.{Cuts, IsDocument, IsPlace, GoesDeeper, IsReadAs, NamesPlace, levels, limit, mark, behind_mark}
use Rattle.tree_reader.specs.declared.stop.Stop.{Stop}
use Rattle.tree_reader.specs.declared.stop.Stop.TheVariants as stops
use Rattle.tree_reader.specs.Halts.{Reached, Meets, IsDone, HaltsBy, HaltsAt, refusal_of}
use Rattle.tree_reader.proofs.TextLemmas.{told}
use Rattle.tree_reader.proofs.StepLemmas.{ok, ok_is, then_ok, run-append}
use Rattle.tree_reader.proofs.SpellLemmas.{at_items, spells_runs}
use Rattle.tree_reader.proofs.TreeLemmas.{runs_spells}
use Rattle.tree_reader.proofs.CutLemmas.{Cuts-more, cut_item, pair_is, item_at_nil, nil_has_none, beyond}
use Rattle.tree_reader.proofs.PlaceLemmas.{run_deeper, step_markup, run_depth, step_too_deep, run_begins, no_step}

-- an item that is read shortens the rest
pub meets_shortens : (s : State) (rest behind : List ℕ) (r : Result State Fault) → Meets s rest r behind → length behind < length rest
meets_shortens s rest behind r m = item_shortens rest (m.item, behind) m.here

map_push_item : (items : List WrittenItem) (item : WrittenItem) → map meaning (items ++ item ∷ []) ≡ map meaning items ++ meaning item ∷ []
map_push_item items item = map-append meaning items (item ∷ [])

one_more_runs : (most : ℕ) (items : List Item) (item : Item) (s : State) (r : Result State Fault) → run_items most items nothing_read ≡ Ok s → step most item s ≡ r
    → run_items most (items ++ item ∷ []) nothing_read ≡ then_run r ok
one_more_runs most items item s r e gives =
    run-append most items (item ∷ []) nothing_read
    ∙ (ap (λ (x : Result State Fault). then_run x (run_items most (item ∷ []))) e ∙ ap (λ (x : Result State Fault). then_run x (run_items most [])) gives)

-- one more item is read
pub reached_more : (bytes rest behind : List ℕ) (s t : State) → Reached bytes s rest → Meets s rest (Ok t) behind → Reached bytes t behind
reached_more bytes rest behind s t r m =
    let taken = item_takes rest (m.item, behind) m.here in
    let w : WrittenItem = taken.0 in
    record {
      items = r.items ++ w ∷ [];
      cut = Cuts-more bytes r.items rest behind w r.cut taken.1 taken.3;
      runs = at_items levels (map meaning (r.items ++ w ∷ [])) (map meaning r.items ++ m.item ∷ []) nothing_read
          (map_push_item r.items w ∙ ap (λ (x : Item). map meaning r.items ++ x ∷ []) taken.2)
          ∙ one_more_runs levels (map meaning r.items) m.item s (Ok t) r.runs m.gives;
    }

nothing_there : (x : Item × List ℕ) → item_at [] ≡ Some x → None ≡ Some x
nothing_there x e = absurd (item_at_nil x e)

none_at_nil : (o : Option (Item × List ℕ)) → item_at [] ≡ o → item_at [] ≡ None
none_at_nil None e = e
none_at_nil (Some x) e = absurd (item_at_nil x e)

-- the bytes end before the document does
pub unfinished : (bytes rest : List ℕ) (s : State) → rest ≡ [] → Reached bytes s rest → ¬ (IsDone s) → HaltsAt bytes stops.Markup 0
unfinished bytes rest s nil r open_still = record {
  state = s;
  rest = rest;
  reached = r;
  left_is = rw nil refl;
  by = inl (rw nil (none_at_nil (item_at []) refl), λ _. open_still);
}

-- documents

pub length-behind_mark : (bytes : List ℕ) → length (behind_mark bytes) ≤ length bytes
unfolding behind_mark
length-behind_mark bytes =
    elim (told (bytes_eq (take 3 bytes) mark)) as (λ _. length (cond (bytes_eq (take 3 bytes) mark) (drop 3 bytes) bytes) ≤ length bytes) [
      | inl is ↦ rw is (omega (arith, length-drop 3 bytes))
      | inr isnt ↦ rw isnt (omega arith)
    ]

pub document_read : (bytes : List ℕ) (tree : Element) → length bytes ≤ limit → Reached (behind_mark bytes) (done tree) [] → IsDocument bytes tree
document_read bytes tree short r = record { items = r.items; short = short; cut = r.cut; spelled = runs_spells levels (map meaning r.items) tree r.runs }

-- the items of a document after those that were read lead to its tree
pub record Leads (rest : List ℕ) (s : State) (tree : Element) : Type 0 where
  pub more : List WrittenItem
  pub cut : Cuts rest more []
  pub runs : run_items levels (map meaning more) s ≡ Ok (done tree)

leads : (bytes rest : List ℕ) (s : State) (tree : Element) → Reached (behind_mark bytes) s rest → IsDocument bytes tree → Leads rest s tree
leads bytes rest s tree r document =
    let b = beyond (behind_mark bytes) rest r.items document.items r.cut document.cut in
    let runs = spells_runs levels (map meaning document.items) tree document.spelled in
    record {
      more = b.more;
      cut = b.cut;
      runs = sym (at_items levels (map meaning document.items) (map meaning r.items ++ map meaning b.more) nothing_read b.whole
          ∙ (run-append levels (map meaning r.items) (map meaning b.more) nothing_read
          ∙ ap (λ (x : Result State Fault). then_run x (run_items levels (map meaning b.more))) r.runs)) ∙ runs;
    }

done_same : (t tree : Element) → ok (done t) ≡ ok (done tree) → t ≡ tree
done_same t tree e = cc

one_tree_by : (t tree : Element) (more : List WrittenItem) → Cuts [] more [] → run_items levels (map meaning more) (done t) ≡ Ok (done tree) → t ≡ tree
one_tree_by t tree [] cut runs = done_same t tree runs
one_tree_by t tree (item ∷ more) cut runs = absurd (nil_has_none [] cut.0 item refl cut.1 cut.2)

pub one_tree : (bytes : List ℕ) (t tree : Element) → Reached (behind_mark bytes) (done t) [] → IsDocument bytes tree → t ≡ tree
one_tree bytes t tree r document = let l = leads bytes [] (done t) tree r document in one_tree_by t tree l.more l.cut l.runs

some_is_none : (x : Item × List ℕ) → ◌≡◌ {A = Option (Item × List ℕ)} (Some x) None → ⊥
some_is_none x e = cc

is_done_by : (s : State) (tree : Element) → s ≡ done tree → IsDone s
is_done_by s tree e = rw e tt

no_lead_end : (rest : List ℕ) (s : State) (tree : Element) (more : List WrittenItem) → item_at rest ≡ None → (rest ≡ [] → ¬ (IsDone s)) → Cuts rest more []
    → run_items levels (map meaning more) s ≡ Ok (done tree) → ⊥
no_lead_end rest s tree [] none not_done cut runs = not_done cut (is_done_by s tree (ok_is s (done tree) runs))
no_lead_end rest s tree (item ∷ more) none not_done cut runs =
    some_is_none (meaning item, cut.0) (sym (cut_item rest cut.0 item cut.1 cut.2) ∙ none)

fault_not_ok : (d : Fault) (t : State) → ◌≡◌ {A = Result State Fault} (Err d) (Ok t) → ⊥
fault_not_ok d t e = cc

no_lead_fault : (rest behind : List ℕ) (s : State) (d : Fault) (tree : Element) (more : List WrittenItem) → Meets s rest (Err d) behind → Cuts rest more []
    → run_items levels (map meaning more) s ≡ Ok (done tree) → ⊥
no_lead_fault rest behind s d tree [] m cut runs = item_at_nil (m.item, behind) (ap item_at (sym cut) ∙ m.here)
no_lead_fault rest behind s d tree (item ∷ more) m cut runs =
    let same = pair_is (meaning item) m.item cut.0 behind (sym (cut_item rest cut.0 item cut.1 cut.2) ∙ m.here) in
    let r = then_ok (step levels (meaning item) s) (run_items levels (map meaning more)) (done tree) runs in
    fault_not_ok d r.0 (sym (ap (λ (x : Item). step levels x s) same.0 ∙ m.gives) ∙ r.1)

-- bytes at which reading halts are not a document
pub halt_only : (bytes : List ℕ) (stop : Stop) (left at : ℕ) (tree : Element) → HaltsAt (behind_mark bytes) stop left → IsDocument bytes tree → IsReadAs (Err (refusal_of stop at)) tree
halt_only bytes stops.Memory left at tree h document = tt
halt_only bytes stops.Markup left at tree h document =
    let l = leads bytes h.rest h.state tree h.reached document in
    elim h.by [
      | inl nothing ↦ no_lead_end h.rest h.state tree l.more nothing.0 nothing.1 l.cut l.runs
      | inr fault ↦ no_lead_fault h.rest fault.0 h.state markup tree l.more fault.1 l.cut l.runs
    ]
halt_only bytes stops.TooDeep left at tree h document =
    let l = leads bytes h.rest h.state tree h.reached document in
    no_lead_fault h.rest h.by.0 h.state too_deep tree l.more h.by.1 l.cut l.runs

-- places

place_by : (most : ℕ) (bytes rest : List ℕ) (at : ℕ) (s : State) (items : List WrittenItem) → 0 < most → Cuts (behind_mark bytes) items rest → at + length rest ≡ length bytes
    → run_items most (map meaning items) nothing_read ≡ Ok s
    → ((item : WrittenItem) (behind : List ℕ) → IsItem item behind → rest ≡ print_item item ++ behind → (d : Fault) × (step most (meaning item) s ≡ Err d))
    → IsPlace most bytes at
place_by most bytes rest at s items some cut here runs fails = record {
  items = items;
  rest = rest;
  cut = cut;
  here = here;
  begins = run_begins most (map meaning items) s some runs;
  longest = λ item behind is split. let f = fails item behind is split in no_step most (map meaning items) s (meaning item) f.0 runs f.1;
}

fault_there : (rest behind : List ℕ) (s : State) (d : Fault) → Meets s rest (Err d) behind → (item : WrittenItem) (b : List ℕ) → IsItem item b → rest ≡ print_item item ++ b
    → step levels (meaning item) s ≡ Err d
fault_there rest behind s d m item b is split =
    let same = pair_is (meaning item) m.item b behind (sym (cut_item rest b item is split) ∙ m.here) in
    ap (λ (x : Item). step levels x s) same.0 ∙ m.gives

none_there : (rest : List ℕ) (item : WrittenItem) (b : List ℕ) → item_at rest ≡ None → IsItem item b → rest ≡ print_item item ++ b → ⊥
none_there rest item b none is split = some_is_none (meaning item, b) (sym (cut_item rest b item is split) ∙ none)

no_markup : (most : ℕ) (s : State) (rest : List ℕ) → levels ≤ most → HaltsBy stops.Markup s rest → (item : WrittenItem) (b : List ℕ) → IsItem item b → rest ≡ print_item item ++ b
    → (d : Fault) × (step most (meaning item) s ≡ Err d)
no_markup most s rest le by item b is split =
    elim by [
      | inl nothing ↦ absurd (none_there rest item b nothing.0 is split)
      | inr fault ↦ (markup, step_markup levels most (meaning item) s (fault_there rest fault.0 s markup fault.1 item b is split))
    ]

markup_place : (most : ℕ) (bytes : List ℕ) (left at : ℕ) → levels ≤ most → at + left ≡ length bytes → HaltsAt (behind_mark bytes) stops.Markup left → IsPlace most bytes at
markup_place most bytes left at le whole h =
    place_by most bytes h.rest at h.state h.reached.items (omega arith) h.reached.cut (rw (← h.left_is) whole)
    (run_deeper levels most (map meaning h.reached.items) nothing_read h.state le h.reached.runs)
    (no_markup most h.state h.rest le h.by)

deep_place : (bytes : List ℕ) (left at : ℕ) → at + left ≡ length bytes → HaltsAt (behind_mark bytes) stops.TooDeep left → IsPlace levels bytes at
deep_place bytes left at whole h =
    place_by levels bytes h.rest at h.state h.reached.items (omega arith) h.reached.cut (rw (← h.left_is) whole) h.reached.runs
    (λ item b is split. (too_deep, fault_there h.rest h.by.0 h.state too_deep h.by.1 item b is split))

deeper : (bytes : List ℕ) (left at : ℕ) → at + left ≡ length bytes → HaltsAt (behind_mark bytes) stops.TooDeep left → GoesDeeper bytes at
deeper bytes left at whole h =
    let m = h.by.1 in
    let taken = item_takes h.rest (m.item, h.by.0) m.here in
    let w : WrittenItem = taken.0 in
    let le = run_depth levels (map meaning h.reached.items) nothing_read h.state (omega arith) h.reached.runs in
    let next = step_too_deep levels m.item h.state le m.gives in
    let front = run_deeper levels (levels + 1) (map meaning h.reached.items) nothing_read h.state (omega arith) h.reached.runs in
    record {
      items = h.reached.items;
      item = w;
      behind = h.by.0;
      cut = rw (← taken.3) h.reached.cut;
      is = taken.1;
      here = rw (← taken.3, ← h.left_is) whole;
      begins = rw taken.2 (run_begins (levels + 1) (map meaning h.reached.items ++ m.item ∷ []) next.0 (omega arith)
          (one_more_runs (levels + 1) (map meaning h.reached.items) m.item h.state (Ok next.0) front next.1));
    }

pub halt_place : (bytes : List ℕ) (stop : Stop) (left at : ℕ) → at + left ≡ length bytes → HaltsAt (behind_mark bytes) stop left → NamesPlace bytes (refusal_of stop at)
halt_place bytes stops.Memory left at whole h = tt
halt_place bytes stops.Markup left at whole h = (markup_place levels bytes left at (omega arith) whole h, markup_place (levels + 1) bytes left at (omega arith) whole h)
halt_place bytes stops.TooDeep left at whole h = (deep_place bytes left at whole h, deeper bytes left at whole h)
