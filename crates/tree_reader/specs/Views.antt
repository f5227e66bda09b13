-- The specification's views of the code's values.
use Rattle.std.specs.Borrow.{Bor}
use Rattle.std.specs.Option.{option_map}
use Rattle.std.specs.Prelude.{◌≡◌, ℕ, ◌∷◌, ◌<◌, ◌≤◌, ◌++◌, length, drop, List, Bool, Option, Some, None, Result, Ok, Err, map, reverse}
use Rattle.as4_envelope.specs.declared.tree.Element.{Element}
use Rattle.tree_reader.specs.Steps.{with_front}
use Rattle.tree_reader.specs.Decoded.{Piece, meant_behind}
use Rattle.tree_reader.specs.Names.{Qualified}
use Rattle.tree_reader.specs.Scopes.{Binding, Begun, scope_of}
use Rattle.tree_reader.specs.Reading.{Fault, markup, too_deep, State, within, done}
use Rattle.tree_reader.specs.declared.stop.Stop.{Stop}
use Rattle.tree_reader.specs.declared.stop.Stop.TheVariants as stops
use Rattle.tree_reader.specs.declared.names.SplitName.{SplitName}
use Rattle.tree_reader.specs.declared.scope.Open.{Open}
use Rattle.tree_reader.specs.declared.scope.Scope.{Scope}
use Rattle.tree_reader.specs.declared.reading.Reading.{Reading}

abbrev pub qualified_of : SplitName → Qualified
qualified_of q = record { prefix = q.prefix.now; local = q.local.now }

abbrev pub begun_of : Open → Begun
begun_of o = record {
  name = o.name.now;
  declared = o.declared;
  space = o.space;
  local = o.local;
  attributes = o.attributes;
  text = o.text;
  children = o.children.items;
}

-- open elements, the innermost last
abbrev pub stack_of : List Open → List Begun
stack_of os = map begun_of (reverse os)

-- the declarations of a tag and of the elements around it, innermost first
abbrev pub scope_in : Scope → List Binding
scope_in s = s.declared.now ++ scope_of (stack_of s.around.now)

-- the complete root, or the open elements
abbrev pub state_by : Option Element → Bool → List Begun → State
state_by None first os = within first os
state_by (Some root) first os = done root

abbrev pub state_of : Reading → State
state_of r = state_by r.root r.first (stack_of r.open.items)

-- the value found, under the view, is the given one, unless memory ran out
abbrev pub Misses : {Y : Type 0} → Stop → Option Y → Type 0
Misses stops.Memory answer = Unit {0}
Misses stops.Markup answer = answer ≡ None
Misses stops.TooDeep answer = ⊥

abbrev pub Finds : {X Y : Type 0} → (X → Y) → Result X Stop → Option Y → Type 0
Finds view (Ok x) answer = answer ≡ Some (view x)
Finds view (Err stop) answer = Misses stop answer

-- the value found is appended to the old list
abbrev pub Adds : {X A : Type 0} → Result X Stop → Option (List A) → List A → List A → Type 0
Adds (Ok x) answer old new = with_front old answer ≡ Some new
Adds (Err stop) answer old new = Misses stop answer

-- the element found is opened inside the old ones
abbrev pub Opens : {X : Type 0} → Result X Stop → Option Begun → List Begun → List Begun → Type 0
Opens (Ok x) answer old new = option_map (λ o. o ∷ old) answer ≡ Some new
Opens (Err stop) answer old new = Misses stop answer

-- a piece is added, and the rest follows it
abbrev pub AddsPiece : Result (Bor (List ℕ)) Stop → Option Piece → List ℕ → List ℕ → List ℕ → Type 0
AddsPiece (Ok rest) answer bytes old new =
    (p : Piece) × (answer ≡ Some p) × (new ≡ old ++ p.meant) × (rest.now ≡ drop p.more bytes) × (length rest.now ≤ length bytes)
AddsPiece (Err stop) answer bytes old new = Misses stop answer

-- the meaning added so far and that of the rest together are the meaning to add
abbrev pub GoesOn : Result (Bor (List ℕ)) Stop → Bool → List ℕ → List ℕ → List ℕ → Type 0
GoesOn (Ok rest) in_value bytes old new =
    (with_front old (meant_behind in_value 0 bytes) ≡ with_front new (meant_behind in_value 0 rest.now)) × (length rest.now < length bytes)
GoesOn (Err stop) in_value bytes old new = Misses stop (meant_behind in_value 0 bytes)

-- the stop corresponds to this fault
abbrev pub Fails : {Y : Type 0} → Stop → Result Y Fault → Type 0
Fails stops.Memory answer = Unit {0}
Fails stops.Markup answer = answer ≡ Err markup
Fails stops.TooDeep answer = answer ≡ Err too_deep

-- the step has this result, unless memory ran out
abbrev pub Makes : {X : Type 0} → Result X Stop → Result State Fault → State → Type 0
Makes (Ok x) answer new = answer ≡ Ok new
Makes (Err stop) answer new = Fails stop answer
