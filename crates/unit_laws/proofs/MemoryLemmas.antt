-- No tree means "out of memory".
use Rattle.std.proofs.Common.{List, [], ◌∷◌, Bool, true, false, subst}
use Rattle.std.specs.Prelude.{◌≢◌, Option, Some, None, Result, Ok, Err, ◌&&◌, if◌then◌else◌}
use Rattle.std.specs.List.{filter}
use Rattle.as4_envelope.specs.declared.tree.Element.{Element}
use Rattle.as4_values.specs.declared.message.Unit.{Unit as MessageUnit}
use Rattle.as4_values.specs.declared.signal.Signal.{Signal}
use Rattle.header_reader.specs.Elements.{children_of, is_named, named}
use Rattle.header_reader.specs.Envelope.{asks_for_more, blocks_of, both_of, elements_among, elements_below, elements_in, is_unit, meaning_of, one_unit_of, only, or_refused, read_together, two_units_of, unit_elements, unit_of}
use Rattle.header_reader.specs.Signals.{signal_of}
use Rattle.header_reader.specs.declared.names.ElementName.TheVariants as name
use Rattle.header_reader.specs.declared.refusal.HeaderRefusal.{HeaderRefusal}
use Rattle.header_reader.specs.declared.refusal.HeaderRefusal.TheVariants.{Invalid, Unsupported, NoMemory}

-- a value, or a refusal that the bytes are the cause of
abbrev IsTold : {X : Type 0} → Result X HeaderRefusal → Type 0
IsTold (Ok x) = Unit {0}
IsTold (Err Invalid) = Unit {0}
IsTold (Err Unsupported) = Unit {0}
IsTold (Err NoMemory) = ⊥

among_told : (es : List Element) → IsTold (elements_among es)
among_told [] = tt
among_told (e ∷ []) = tt
among_told (e ∷ f ∷ []) = by_test (is_named name.SignalMessage e && is_named name.SignalMessage f)
  where
    by_test : (b : Bool) → IsTold {X = List Element} (if b then Ok (e ∷ f ∷ []) else Err Unsupported)
    by_test true = tt
    by_test false = tt
among_told (e ∷ f ∷ g ∷ es) = tt

below_told : (blocks : List Element) (o : Option Element) → IsTold (elements_below blocks o)
below_told blocks None = tt
below_told blocks (Some messaging) = by_test (asks_for_more blocks)
  where
    by_test : (b : Bool) → IsTold {X = List Element} (if b then Err Unsupported else elements_among (filter is_unit (children_of messaging)))
    by_test true = tt
    by_test false = among_told (filter is_unit (children_of messaging))

in_told : (o : Option (List Element)) → IsTold (elements_in o)
in_told None = tt
in_told (Some blocks) = below_told blocks (only (named name.Messaging blocks))

or_told : (o p : Option MessageUnit) → IsTold (or_refused Invalid o) × IsTold (or_refused Unsupported p)
or_told None None = (tt, tt)
or_told None (Some v) = (tt, tt)
or_told (Some u) None = (tt, tt)
or_told (Some u) (Some v) = (tt, tt)

two_told : (o p : Option Signal) → IsTold (two_units_of o p)
two_told (Some a) (Some b) = (or_told None (both_of a b)).1
two_told (Some a) None = tt
two_told None p = tt

together_told : (es : List Element) → IsTold (read_together es)
together_told [] = tt
together_told (e ∷ []) = (or_told (one_unit_of e) None).0
together_told (e ∷ f ∷ []) = two_told (signal_of e) (signal_of f)
together_told (e ∷ f ∷ g ∷ es) = tt

meaning_told : (found : Result (List Element) HeaderRefusal) → IsTold found → IsTold (meaning_of found)
meaning_told (Err Invalid) told = tt
meaning_told (Err Unsupported) told = tt
meaning_told (Err NoMemory) told = told
meaning_told (Ok es) told = together_told es

pub never_memory : (tree : Element) → unit_of tree ≢ Err NoMemory
unfolding unit_of unit_elements
never_memory tree e = subst (λ (u : Result MessageUnit HeaderRefusal). IsTold u) e (meaning_told (elements_in (blocks_of tree)) (in_told (blocks_of tree)))
