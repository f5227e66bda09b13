-- The header that an envelope means is read from an element of its tree.
use Rattle.std.proofs.Common.{◌≡◌, ◌≤◌, List, [], ◌∷◌, Option, Some, None, Result, Ok, Err, arith, refl}
use Rattle.std.specs.Prelude.{◌&&◌, codes, option_map}
use Rattle.std.specs.List.{sum_by, filter}
use Rattle.std.proofs.lemmas.List.Sums.{sum_by-cons}
use Rattle.std.proofs.lemmas.Option.{same_Some}
use Rattle.as4_envelope.specs.declared.tree.Element.{Element}
use Rattle.as4_values.specs.declared.header.UserHeader.{UserHeader}
use Rattle.as4_values.specs.declared.message.Unit.{Unit as MessageUnit}
use Rattle.as4_values.specs.declared.message.Unit.TheVariants as unit
use Rattle.as4_values.specs.declared.signal.Signal.{Signal}
use Rattle.header_reader.specs.Elements.{children_of, is_named, named}
use Rattle.header_reader.specs.Envelope.{is_soap, is_soap_named, is_unit, blocks_in, blocks_of, only, asks_for_more, elements_among, elements_below, elements_in, unit_elements, one_unit_of, or_refused, both_of, first_of, two_units_of, read_together, meaning_of, unit_of}
use Rattle.header_reader.specs.Made.{pair_from}
use Rattle.header_reader.specs.Signals.{signal_of}
use Rattle.header_reader.specs.User.{user_of}
use Rattle.header_reader.specs.declared.names.ElementName.TheVariants as name
use Rattle.header_reader.specs.declared.refusal.HeaderRefusal.{HeaderRefusal}
use Rattle.header_reader.specs.declared.refusal.HeaderRefusal.TheVariants.{Unsupported}
use Rattle.coming_laws.specs.Sizes.{size}
use Rattle.coming_laws.proofs.ChoiceLemmas.{either, only_first, applied}
use Rattle.coming_laws.proofs.ElementSizes.{Within, children_size}
use Rattle.coming_laws.proofs.SumLemmas.{sum_by-filter}

-- the elements on the way to a unit

blocks_size : (es blocks : List Element) → blocks_in es ≡ Some blocks → sum_by size blocks ≤ sum_by size es
blocks_size [] blocks is = absurd cc
blocks_size (header ∷ []) blocks is = absurd cc
blocks_size (header ∷ body ∷ []) blocks is =
    let same = same_Some (children_of header) blocks (only_first (is_soap_named (codes "Header") header && is_soap_named (codes "Body") body) _ blocks is) in
    rw (← same) (omega (arith, children_size header, sum_by-cons size header (body ∷ []), sum_by-cons size body []))
blocks_size (header ∷ body ∷ other ∷ others) blocks is = absurd cc

header_size : (tree : Element) (blocks : List Element) → blocks_of tree ≡ Some blocks → sum_by size blocks ≤ size tree
unfolding blocks_of
header_size tree blocks is =
    omega (
      arith,
      blocks_size (filter is_soap (children_of tree)) blocks (only_first (is_soap_named (codes "Envelope") tree) _ blocks is),
      sum_by-filter size is_soap (children_of tree),
      children_size tree,
    )

only_size : (es : List Element) (e : Element) → only es ≡ Some e → size e ≤ sum_by size es
only_size [] e is = absurd cc
only_size (first ∷ []) e is = let same : first ≡ e = cc in rw (← same) (omega (arith, sum_by-cons size first []))
only_size (first ∷ other ∷ others) e is = absurd cc

among_are : (es units : List Element) → elements_among es ≡ Ok units → es ≡ units
among_are [] units is = absurd cc
among_are (e ∷ []) units is = cc
among_are (a ∷ b ∷ []) units is =
    either (is_named name.SignalMessage a && is_named name.SignalMessage b) _ _ (Ok units) is (λ both. cc) (λ none. absurd cc)
among_are (a ∷ b ∷ c ∷ others) units is = absurd cc

below_size : (blocks units : List Element) (messaging : Option Element) → ((e : Element) → messaging ≡ Some e → size e ≤ sum_by size blocks)
    → elements_below blocks messaging ≡ Ok units → sum_by size units ≤ sum_by size blocks
below_size blocks units None within is = absurd cc
below_size blocks units (Some messaging) within is =
    either (asks_for_more blocks) _ _ (Ok units) is (λ none. absurd cc) (λ found.
    let same = among_are (filter is_unit (children_of messaging)) units found in
    rw (← same) (omega (arith, within messaging refl, sum_by-filter size is_unit (children_of messaging), children_size messaging)))

elements_size : (tree : Element) (blocks : Option (List Element)) (units : List Element) → ((found : List Element) → blocks ≡ Some found → sum_by size found ≤ size tree)
    → elements_in blocks ≡ Ok units → sum_by size units ≤ size tree
elements_size tree None units within is = absurd cc
elements_size tree (Some blocks) units within is =
    omega (
      arith,
      within blocks refl,
      below_size blocks units (only (named name.Messaging blocks)) (λ e found. omega (arith, only_size (named name.Messaging blocks) e found, sum_by-filter size (is_named name.Messaging) blocks)) is,
    )

-- the unit

unrefused : (refusal : HeaderRefusal) (o : Option MessageUnit) (u : MessageUnit) → or_refused refusal o ≡ Ok u → o ≡ Some u
unrefused refusal None u is = absurd cc
unrefused refusal (Some v) u is = cc

not_user : {X P : Type 0} (f : X → MessageUnit) (o : Option X) (u : MessageUnit) → option_map f o ≡ Some u → ((x : X) → f x ≡ u → P) → P
not_user f o u is none = applied f o u is λ x found same. none x same

one_header : (e : Element) (h : UserHeader) → one_unit_of e ≡ Some (unit.User h) → user_of e ≡ Some h
unfolding one_unit_of
one_header e h is =
    either (is_named name.UserMessage e) _ _ (Some (unit.User h)) is
    (λ user. applied unit.User (user_of e) (unit.User h) user λ read found same. let one : read ≡ h = cc in rw (← one) found)
    (λ signal. not_user unit.Signal (signal_of e) (unit.User h) signal λ s same. absurd cc)

two_no_header : {P : Type 0} (a b : Option Signal) (h : UserHeader) → two_units_of a b ≡ Ok (unit.User h) → P
unfolding both_of
two_no_header (Some a) (Some b) h is =
    not_user unit.Pair (first_of (pair_from a b) (pair_from b a)) (unit.User h) (unrefused Unsupported _ (unit.User h) is) λ p same. absurd cc
two_no_header (Some a) None h is = absurd cc
two_no_header None b h is = absurd cc

together_within : (tree : Element) (units : List Element) (h : UserHeader) → sum_by size units ≤ size tree → read_together units ≡ Ok (unit.User h) → Within tree user_of h
together_within tree [] h within is = absurd cc
together_within tree (e ∷ []) h within is = record {
  inner = e;
  smaller = omega (arith, sum_by-cons size e []);
  read = one_header e h (unrefused _ (one_unit_of e) (unit.User h) is);
}
together_within tree (a ∷ b ∷ []) h within is = two_no_header (signal_of a) (signal_of b) h is
together_within tree (a ∷ b ∷ c ∷ others) h within is = absurd cc

meaning_within : (tree : Element) (units : Result (List Element) HeaderRefusal) (h : UserHeader) → ((found : List Element) → units ≡ Ok found → sum_by size found ≤ size tree)
    → meaning_of units ≡ Ok (unit.User h) → Within tree user_of h
meaning_within tree (Err refusal) h within is = absurd cc
meaning_within tree (Ok units) h within is = together_within tree units h (within units refl) is

pub unit_within : (tree : Element) (h : UserHeader) → unit_of tree ≡ Ok (unit.User h) → Within tree user_of h
unfolding unit_of unit_elements
unit_within tree h is =
    meaning_within tree (elements_in (blocks_of tree)) h (λ units found. elements_size tree (blocks_of tree) units (header_size tree) found) is
