-- What the loop over items has read, and where it stops.
use Rattle.std.specs.Borrow.{Bor}
use Rattle.std.specs.List.{AllByRecursion}
use Rattle.std.specs.Prelude.{◌≡◌, ◌⊎◌, ℕ, List, [], ◌∷◌, ◌++◌, Some, None, Result, Ok, Err, length, map}
use Rattle.as4_envelope.specs.declared.tree.Element.{Element}
use Rattle.xml_items.specs.Items.{Item}
use Rattle.xml_items.specs.Cutting.{item_at}
use Rattle.xml_items.specs.Classes.{is_name_byte}
use Rattle.xml_items.specs.Grammar.{WrittenItem, end_tag, meaning, print_item, IsSome}
use Rattle.tree_reader.specs.Scopes.{Begun}
use Rattle.tree_reader.specs.Reading.{Fault, markup, too_deep, State, within, done, step, run_items, nothing_read}
use Rattle.tree_reader.specs.Documents.{Cuts, levels}
use Rattle.tree_reader.specs.declared.stop.Stop.{Stop}
use Rattle.tree_reader.specs.declared.stop.Stop.TheVariants as stops
use Rattle.tree_reader.specs.declared.stop.TreeRefusal.{TreeRefusal}
use Rattle.tree_reader.specs.declared.stop.TreeRefusal.TheVariants.{Markup, TooDeep, NoMemory}
use Rattle.tree_reader.specs.declared.read.Halt.{Halt}

-- reading the items before the rest gave this state
pub record Reached (bytes : List ℕ) (state : State) (rest : List ℕ) : Type 0 where
  pub items : List WrittenItem
  pub cut : Cuts bytes items rest
  pub runs : run_items levels (map meaning items) nothing_read ≡ Ok state

-- the open elements have names: at least one byte, all of them name bytes
abbrev pub AreNames : List Begun → Type 0
AreNames os = AllByRecursion (λ o. IsSome is_name_byte o.name) os

abbrev pub AreNamed : State → Type 0
AreNamed (within first os) = AreNames os
AreNamed (done root) = Unit {0}

-- the bytes begin with the end tag of the innermost element, without blanks
abbrev pub IsEndOf : List Begun → List ℕ → List ℕ → Type 0
IsEndOf [] bytes behind = ⊥
IsEndOf (o ∷ os) bytes behind = bytes ≡ print_item (end_tag o.name []) ++ behind

-- the first item of the rest, and the result of its step
pub record Meets (state : State) (rest : List ℕ) (answer : Result State Fault) (behind : List ℕ) : Type 0 where
  pub item : Item
  pub here : item_at rest ≡ Some (item, behind)
  pub gives : step levels item state ≡ answer

-- one item was read, or the reason why not
abbrev pub Advances : Result (Bor (List ℕ)) Stop → State → State → List ℕ → Type 0
Advances (Ok behind) old new rest = Meets old rest (Ok new) behind.now
Advances (Err stops.Memory) old new rest = Unit {0}
Advances (Err stops.Markup) old new rest = (item_at rest ≡ None) ⊎ ((behind : List ℕ) × Meets old rest (Err markup) behind)
Advances (Err stops.TooDeep) old new rest = (behind : List ℕ) × Meets old rest (Err too_deep) behind

-- whether the root is complete
abbrev pub IsDone : State → Type 0
IsDone (within first os) = ⊥
IsDone (done root) = Unit {0}

-- why the loop stopped at this rest
abbrev pub HaltsBy : Stop → State → List ℕ → Type 0
HaltsBy stops.Memory state rest = Unit {0}
HaltsBy stops.Markup state rest =
    ((item_at rest ≡ None) × (rest ≡ [] → ¬ (IsDone state))) ⊎ ((behind : List ℕ) × Meets state rest (Err markup) behind)
HaltsBy stops.TooDeep state rest = (behind : List ℕ) × Meets state rest (Err too_deep) behind

pub record HaltsAt (bytes : List ℕ) (stop : Stop) (left : ℕ) : Type 0 where
  pub state : State
  pub rest : List ℕ
  pub reached : Reached bytes state rest
  pub left_is : left ≡ length rest
  pub by : HaltsBy stop state rest

-- all items were read, or the reason why not
abbrev pub Halts : Result Element Halt → List ℕ → Type 0
Halts (Ok tree) bytes = Reached bytes (done tree) []
Halts (Err halt) bytes = HaltsAt bytes halt.stop halt.left

abbrev pub refusal_of : Stop → ℕ → TreeRefusal
refusal_of stops.Memory at = NoMemory
refusal_of stops.Markup at = Markup at
refusal_of stops.TooDeep at = TooDeep at
