-- The effect of an item on the state of reading: the stack of open elements.
use Rattle.std.specs.Prelude.{ℕ, List, [], ◌∷◌, ◌++◌, Bool, true, false, if◌then◌else◌, nat_lt, Option, Some, None, Result, Ok, Err, length, bytes_eq}
use Rattle.std.specs.List.{list_all}
use Rattle.as4_values.specs.Texts.{is_xml}
use Rattle.byte_forms.specs.Classes.{is_blank}
use Rattle.as4_envelope.specs.declared.tree.Element.{Element}
use Rattle.xml_items.specs.Items.{Item, declaration, comment, start, finish, run}
use Rattle.tree_reader.specs.Decoded.{text_meant}
use Rattle.tree_reader.specs.Scopes.{Begun, element_of, scope_of, resolve}

-- why an item is no step: it isn't allowed at its place, or it is a start tag that is right but too deep
pub data Fault : Type 0 where
  markup : Fault
  too_deep : Fault

-- the open elements, innermost first, and whether nothing was read yet; or the complete root
pub data State : Type 0 where
  within : Bool → List Begun → State
  done : Element → State

-- puts a complete element into the innermost of those around it
abbrev pub placed : Element → List Begun → State
placed e [] = done e
placed e (o ∷ os) = within false (record o { children = o.children ++ e ∷ [] } ∷ os)

abbrev pub opened : Bool → Begun → List Begun → State
opened true o os = placed (element_of o) os
opened false o os = within false (o ∷ os)

-- completes the innermost element
abbrev pub completed : List Begun → Result State Fault
completed [] = Err markup
completed (o ∷ os) = Ok (placed (element_of o) os)

abbrev pub begins : ℕ → Bool → List Begun → Option Begun → Result State Fault
begins levels closed os None = Err markup
begins levels closed os (Some o) = if nat_lt (length os) levels then Ok (opened closed o os) else Err too_deep

abbrev pub with_text : Begun → List Begun → Option (List ℕ) → Result State Fault
with_text o os None = Err markup
with_text o os (Some text) = Ok (within false (record o { text = o.text ++ text } ∷ os))

-- records that something was read
abbrev pub later : State → State
later (within first os) = within false os
later (done root) = done root

abbrev pub unchanged : Bool → State → Result State Fault
unchanged right state = if right then Ok (later state) else Err markup

-- the step of an item, with at most n elements open
unfoldable pub step : ℕ → Item → State → Result State Fault
step levels declaration (within first os) = unchanged first (within first os)
step levels declaration (done root) = Err markup
step levels (comment text) state = unchanged (is_xml text) state
step levels (run bytes) (within first []) = unchanged (list_all is_blank bytes) (within first [])
step levels (run bytes) (within first (o ∷ os)) = with_text o os (text_meant bytes)
step levels (run bytes) (done root) = unchanged (list_all is_blank bytes) (done root)
step levels (start tag) (within first os) = begins levels tag.closed os (resolve (scope_of os) tag.name tag.attributes)
step levels (start tag) (done root) = Err markup
step levels (finish name) (within first []) = Err markup
step levels (finish name) (within first (o ∷ os)) = if bytes_eq name o.name then Ok (placed (element_of o) os) else Err markup
step levels (finish name) (done root) = Err markup

abbrev pub then_run : Result State Fault → (State → Result State Fault) → Result State Fault
then_run (Ok state) f = f state
then_run (Err fault) f = Err fault

-- the steps of items, in sequence
abbrev pub run_items : ℕ → List Item → State → Result State Fault
run_items levels [] state = Ok state
run_items levels (item ∷ items) state = then_run (step levels item state) (run_items levels items)

abbrev pub nothing_read : State
nothing_read = within true []
