-- The message unit that an envelope means (SOAP 1.2 Part 1, section 5; ebMS 3.0 Core, section 5.2). The conditions are
-- checked in this order; the first that applies decides.
use Rattle.std.specs.Prelude.{◌≡◌, ℕ, List, [], ◌∷◌, Bool, not, ◌&&◌, ◌||◌, if◌then◌else◌, Option, Some, None, Result, Ok, Err, option_map, bytes_eq, codes}
use Rattle.std.specs.List.{filter, list_any}
use Rattle.as4_envelope.specs.Tree.{soap}
use Rattle.as4_envelope.specs.declared.tree.Attribute.{Attribute}
use Rattle.as4_envelope.specs.declared.tree.Element.{Element}
use Rattle.as4_envelope.specs.declared.tree.Element.TheViews.{out-Element}
use Rattle.as4_values.specs.declared.message.Unit.{Unit as MessageUnit}
use Rattle.as4_values.specs.declared.message.Unit.TheVariants as unit
use Rattle.as4_values.specs.declared.signal.Signal.{Signal}
use Rattle.header_reader.specs.Elements.{children_of, is_named, named}
use Rattle.header_reader.specs.Gives.{Answers}
use Rattle.header_reader.specs.Made.{pair_from}
use Rattle.header_reader.specs.Signals.{signal_of}
use Rattle.header_reader.specs.User.{user_of}
use Rattle.byte_forms.specs.Trimmed.{trimmed}
use Rattle.header_reader.specs.declared.names.ElementName.TheVariants as name
use Rattle.header_reader.specs.declared.envelope.Sort.{Sort}
use Rattle.header_reader.specs.declared.envelope.Sort.TheVariants as sort
use Rattle.header_reader.specs.declared.refusal.HeaderRefusal.{HeaderRefusal}
use Rattle.header_reader.specs.declared.refusal.HeaderRefusal.TheVariants.{Invalid, Unsupported}

abbrev pub is_soap : Element → Bool
is_soap e = bytes_eq (out-Element e).space soap

-- an element of SOAP with this name
unfoldable pub is_soap_named : List ℕ → Element → Bool
is_soap_named local e = is_soap e && bytes_eq (out-Element e).local local

-- the blocks of the header, if the elements of SOAP are exactly one header followed by one body
abbrev pub blocks_in : List Element → Option (List Element)
blocks_in [] = None
blocks_in (header ∷ []) = None
blocks_in (header ∷ body ∷ []) =
    if is_soap_named (codes "Header") header && is_soap_named (codes "Body") body then Some (children_of header) else None
blocks_in (header ∷ body ∷ other ∷ others) = None

unfoldable pub blocks_of : Element → Option (List Element)
blocks_of tree = if is_soap_named (codes "Envelope") tree then blocks_in (filter is_soap (children_of tree)) else None

-- the element of a list that has just one
abbrev pub only : List Element → Option Element
only [] = None
only (e ∷ []) = Some e
only (e ∷ f ∷ others) = None

-- the attribute that makes a block mandatory: SOAP 1.2 Part 1, section 5.2.3
abbrev pub demands : Attribute → Bool
demands a =
    bytes_eq a.space soap && bytes_eq a.local (codes "mustUnderstand")
    && (bytes_eq (trimmed a.value) (codes "true") || bytes_eq (trimmed a.value) (codes "1"))

unfoldable pub must_be_understood : Element → Bool
must_be_understood block = list_any demands (out-Element block).attributes

-- a block other than `eb:Messaging` must be understood
unfoldable pub asks_for_more : List Element → Bool
asks_for_more blocks = list_any (λ block. not (is_named name.Messaging block) && must_be_understood block) blocks

-- a message unit
abbrev pub is_unit : Element → Bool
is_unit e = is_named name.UserMessage e || is_named name.SignalMessage e

-- the elements that the reader searches for, step by step
abbrev pub is_of : Sort → Element → Bool
is_of sort.Soap e = is_soap e
is_of sort.Messaging e = is_named name.Messaging e
is_of sort.Unit e = is_unit e

-- the units that are read together: one unit, or two signals
abbrev pub elements_among : List Element → Result (List Element) HeaderRefusal
elements_among [] = Err Invalid
elements_among (e ∷ []) = Ok (e ∷ [])
elements_among (a ∷ b ∷ []) =
    if is_named name.SignalMessage a && is_named name.SignalMessage b then Ok (a ∷ b ∷ []) else Err Unsupported
elements_among (a ∷ b ∷ c ∷ others) = Err Unsupported

abbrev pub elements_below : List Element → Option Element → Result (List Element) HeaderRefusal
elements_below blocks None = Err Invalid
elements_below blocks (Some messaging) =
    if asks_for_more blocks then Err Unsupported else elements_among (filter is_unit (children_of messaging))

abbrev pub elements_in : Option (List Element) → Result (List Element) HeaderRefusal
elements_in None = Err Invalid
elements_in (Some blocks) = elements_below blocks (only (named name.Messaging blocks))

-- the elements of an envelope's units, or the refusal
unfoldable pub unit_elements : Element → Result (List Element) HeaderRefusal
unit_elements tree = elements_in (blocks_of tree)

-- the unit that one element spells
unfoldable pub one_unit_of : Element → Option MessageUnit
one_unit_of e = if is_named name.UserMessage e then option_map unit.User (user_of e) else option_map unit.Signal (signal_of e)

abbrev pub or_refused : HeaderRefusal → Option MessageUnit → Result MessageUnit HeaderRefusal
or_refused refusal None = Err refusal
or_refused refusal (Some u) = Ok u

-- the first of two options that has a value
abbrev pub first_of : {X : Type 0} → Option X → Option X → Option X
first_of (Some x) other = Some x
first_of None other = other

-- two signals: a receipt and a pull request, in either order
unfoldable pub both_of : Signal → Signal → Option MessageUnit
both_of a b = option_map unit.Pair (first_of (pair_from a b) (pair_from b a))

abbrev pub two_units_of : Option Signal → Option Signal → Result MessageUnit HeaderRefusal
two_units_of (Some a) (Some b) = or_refused Unsupported (both_of a b)
two_units_of (Some a) None = Err Invalid
two_units_of None b = Err Invalid

-- the meaning of these elements together
abbrev pub read_together : List Element → Result MessageUnit HeaderRefusal
read_together [] = Err Invalid
read_together (e ∷ []) = or_refused Invalid (one_unit_of e)
read_together (a ∷ b ∷ []) = two_units_of (signal_of a) (signal_of b)
read_together (a ∷ b ∷ c ∷ others) = Err Invalid

abbrev pub meaning_of : Result (List Element) HeaderRefusal → Result MessageUnit HeaderRefusal
meaning_of (Err refusal) = Err refusal
meaning_of (Ok units) = read_together units

-- the unit that an envelope means, or the refusal
unfoldable pub unit_of : Element → Result MessageUnit HeaderRefusal
unit_of tree = meaning_of (unit_elements tree)

-- the tree is an envelope of this unit
abbrev pub SpellsUnit : Element → MessageUnit → Type 0
SpellsUnit tree u = unit_of tree ≡ Ok u

-- the result for these unit elements: if they are refused, that refusal, even when memory runs out; else their meaning
-- together, unless memory ran out
abbrev pub AnswersFor : Result MessageUnit HeaderRefusal → Result (List Element) HeaderRefusal → Type 0
AnswersFor answer (Err refusal) = answer ≡ Err refusal
AnswersFor answer (Ok units) = Answers answer (read_together units)
