-- The end tag of the innermost element, recognized by its name.
use Rattle.std.proofs.Common.{◌≡◌, ℕ, Bool, true, false, List, [], ◌∷◌, ◌++◌, map, take, drop, codes, None, Result, Ok, length, refl, sym, ap, ◌∙◌, append_assoc}
use Rattle.std.proofs.lemmas.List.{take-append-drop}
use Rattle.std.proofs.lemmas.Slice.Eq.{bytes_eq-Decides}
use Rattle.std.specs.Str.{bytes_eq}
use Rattle.as4_envelope.specs.declared.tree.Element.{Element}
use Rattle.byte_forms.specs.Classes.{is_blank}
use Rattle.std.specs.List.{list_all}
use Rattle.xml_items.specs.Items.{finish}
use Rattle.xml_items.specs.Classes.{is_name_byte}
use Rattle.xml_items.specs.Grammar.{WrittenItem, xml_declaration, remark, start_tag, end_tag, text, print_item, IsItem, meaning, IsSome}
use Rattle.xml_items.proofs.RunLemmas.{pass_nil}
use Rattle.tree_reader.specs.Scopes.{Begun, element_of, scope_of}
use Rattle.tree_reader.specs.Reading.{Fault, State, within, done, placed, opened, completed, later, step, run_items, nothing_read}
use Rattle.tree_reader.specs.Documents.{Cuts, levels}
use Rattle.tree_reader.specs.declared.reading.Reading.{Reading}
use Rattle.tree_reader.specs.Halts.{Reached, Meets, AreNames, AreNamed, IsEndOf}
use Rattle.tree_reader.specs.Views.{stack_of, state_of}
use Rattle.tree_reader.proofs.CutLemmas.{cut_item}
use Rattle.tree_reader.proofs.SpellLemmas.{finish_steps}
use Rattle.tree_reader.proofs.StepLemmas.{ok_is, then_ok, resolve_name, unchanged_ok, step_start, step_text, step_comment, step_finish}

-- reading keeps names

placed_named : (e : Element) (os : List Begun) → AreNames os → AreNamed (placed e os)
placed_named e [] named = tt
placed_named e (o ∷ os) named = named

opened_named : (closed : Bool) (o : Begun) (os : List Begun) → IsSome is_name_byte o.name → AreNames os → AreNamed (opened closed o os)
opened_named true o os name named = placed_named (element_of o) os named
opened_named false o os name named = (name, named)

later_named : (s : State) → AreNamed s → AreNamed (later s)
later_named (within first os) named = named
later_named (done root) named = tt

step_named : (w : WrittenItem) (behind : List ℕ) (s t : State) → IsItem w behind → step levels (meaning w) s ≡ Ok t → AreNamed s → AreNamed t
unfolding IsItem meaning step
step_named (xml_declaration parts blanks) behind (within first os) t is e named = rw (unchanged_ok first (within first os) t e).1 named
step_named (xml_declaration parts blanks) behind (done root) t is e named = absurd cc
step_named (remark bytes) behind s t is e named = rw (step_comment levels bytes s t e).1 (later_named s named)
step_named (start_tag w) behind (within first os) t is e named =
    let s = step_start levels _ first os t e in
    let name = resolve_name (scope_of os) _ _ s.begun s.resolved in
    let named_so : IsSome is_name_byte s.begun.name = rw name is.name in
    rw s.is (opened_named w.closed s.begun os named_so named)
step_named (start_tag w) behind (done root) t is e named = absurd cc
step_named (end_tag name blanks) behind (within first []) t is e named = absurd cc
step_named (end_tag name blanks) behind (within first (o ∷ os)) t is e named =
    rw (step_finish levels name first o os t e).1 (placed_named (element_of o) os named.1)
step_named (end_tag name blanks) behind (done root) t is e named = absurd cc
step_named (text bytes) behind (within first []) t is e named = rw (unchanged_ok (list_all is_blank bytes) (within first []) t e).1 named
step_named (text bytes) behind (within first (o ∷ os)) t is e named = rw (step_text levels bytes first o os t e).2 named
step_named (text bytes) behind (done root) t is e named = rw (unchanged_ok (list_all is_blank bytes) (done root) t e).1 tt

run_named : (items : List WrittenItem) (bytes rest : List ℕ) (s t : State) → Cuts bytes items rest → run_items levels (map meaning items) s ≡ Ok t → AreNamed s → AreNamed t
run_named [] bytes rest s t cut runs named = rw (sym (ok_is s t runs)) named
run_named (w ∷ items) bytes rest s t cut runs named =
    let r = then_ok (step levels (meaning w) s) (run_items levels (map meaning items)) t runs in
    run_named items cut.0 rest r.0 t cut.3 r.2 (step_named w cut.0 s r.0 cut.1 r.1 named)

-- the open elements have names, since their start tags were read
pub reached_named : (bytes rest : List ℕ) (s : State) → Reached bytes s rest → AreNamed s
reached_named bytes rest s r = run_named r.items bytes rest nothing_read s r.cut r.runs tt

-- so their end tags are cut
end_meets : (first : Bool) (os : List Begun) (bytes behind : List ℕ) (r : Result State Fault) → AreNames os → IsEndOf os bytes behind → completed os ≡ r → Meets (within first os) bytes r behind
unfolding IsItem meaning
end_meets first [] bytes behind r named is gives = absurd is
end_meets first (o ∷ os) bytes behind r named is gives = record {
  item = finish o.name;
  here = cut_item bytes behind (end_tag o.name []) (named.0, pass_nil is_blank) is;
  gives = finish_steps levels o.name first o os refl ∙ gives;
}

-- and reading goes on from there
pub end_reads : (reading : Reading) (bytes behind : List ℕ) (t : State) → reading.root ≡ None → AreNamed (state_of reading) → IsEndOf (stack_of reading.open.items) bytes behind
    → completed (stack_of reading.open.items) ≡ Ok t → Meets (state_of reading) bytes (Ok t) behind
end_reads reading bytes behind t inside named is gives =
    rw inside (end_meets reading.first (stack_of reading.open.items) bytes behind (Ok t) (rw inside at named) is gives)

-- three words in sequence are an end tag

front_is : (word bytes behind : List ℕ) → bytes_eq (take (length word) bytes) word ≡ true → behind ≡ drop (length word) bytes → bytes ≡ word ++ behind
front_is word bytes behind same is =
    let front : take (length word) bytes ≡ word = (bytes_eq-Decides (take (length word) bytes) word).0 same in
    sym (take-append-drop (length word) bytes) ∙ (ap (λ (w : List ℕ). w ++ drop (length word) bytes) front ∙ ap (λ (r : List ℕ). word ++ r) (sym is))

pub end_is : (name bytes name_on rest behind : List ℕ) → bytes_eq (take 2 bytes) (codes "</") ≡ true → name_on ≡ drop 2 bytes
    → bytes_eq (take (length name) name_on) name ≡ true → rest ≡ drop (length name) name_on → bytes_eq (take 1 rest) (codes ">") ≡ true → behind ≡ drop 1 rest
    → bytes ≡ print_item (end_tag name []) ++ behind
unfolding print_item
end_is name bytes name_on rest behind opens name_on_is named rest_is closes behind_is =
    let whole : name ++ rest ≡ (name ++ codes ">") ++ behind =
    ap (λ (r : List ℕ). name ++ r) (front_is (codes ">") rest behind closes behind_is) ∙ sym (append_assoc name (codes ">") behind) in
    front_is (codes "</") bytes name_on opens name_on_is
    ∙ (ap (λ (r : List ℕ). codes "</" ++ r) (front_is name name_on rest named rest_is) ∙ ap (λ (r : List ℕ). codes "</" ++ r) whole)
