-- What the reader finds in elements that are read alike.
use Rattle.std.proofs.Common.{◌≡◌, ℕ, zero, suc, List, [], ◌∷◌, Bool, true, false, not, ◌||◌, refl, sym, ap, ◌∙◌, subst}
use Rattle.std.specs.Prelude.{Option, Some, None, option_map, bytes_eq, if◌then◌else◌}
use Rattle.std.specs.List.{filter, list_any}
use Rattle.std.proofs.lemmas.Bool.{and_parts, and_from, false≢true}
use Rattle.std.proofs.lemmas.Slice.Eq.{bytes_eq-Decides}
use Rattle.as4_envelope.specs.Tree.{ebms}
use Rattle.as4_envelope.specs.declared.tree.Element.{Element}
use Rattle.as4_envelope.specs.declared.tree.Element.TheViews.{out-Element}
use Rattle.byte_forms.specs.Cuts.{◌>>=◌}
use Rattle.header_reader.specs.Elements.{attribute, at_most_one, child, children, children_of, each, holds_only, is_ebms, is_named, leaf, may_stand, named, optional_attribute, optional_child, optional_value, read_if_some, read_one, text_in}
use Rattle.header_reader.specs.Envelope.{is_soap, is_soap_named}
use Rattle.header_reader.specs.Names.{element_name}
use Rattle.header_reader.specs.declared.names.AttributeName.{AttributeName}
use Rattle.header_reader.specs.declared.names.ElementName.{ElementName}
use Rattle.header_reader.specs.declared.names.ElementName.TheVariants as name
use Rattle.unit_laws.specs.Alike.{IsReadAlike, ReadAlike, SameName, called, has_name}
use Rattle.unit_laws.specs.Pairs.{Pairwise}
use Rattle.unit_laws.proofs.PairLemmas.{all_by_any, any_by_name, pairs_any, pairs_map, pairs_passed, pairs_same}

-- names

pub same_named : (label : ElementName) (a b : Element) → SameName a b → is_named label a ≡ is_named label b
unfolding is_named
same_named label a b same = rw (same.space, same.local) refl

pub same_soap_named : (local : List ℕ) (a b : Element) → SameName a b → is_soap_named local a ≡ is_soap_named local b
unfolding is_soap_named
same_soap_named local a b same = rw (same.space, same.local) refl

pub named_ebms : (label : ElementName) (e : Element) → is_named label e ≡ true → is_ebms e ≡ true
unfolding is_named
named_ebms label e is = (and_parts (is_ebms e) (bytes_eq (out-Element e).local (element_name label)) is).0

-- bytes equal themselves
pub same_bytes : (bytes : List ℕ) → bytes_eq bytes bytes ≡ true
same_bytes bytes = (bytes_eq-Decides bytes bytes).1 refl

-- one level less

pub below : ℕ → ℕ
below zero = zero
below (suc levels) = levels

read_itself : (a : Element) → IsReadAlike (λ x y. x ≡ y) a a
read_itself a = record {
  name = record { space = refl; local = refl };
  of_ebms = λ is. record {
    attributes = λ label. refl;
    text = λ leaf. refl;
    children = λ local. pairs_same (λ (x y : Element). x ≡ y) (called ebms local (children_of a)) (λ x. refl);
  };
  envelope = λ is. pairs_same (λ (x y : Element). x ≡ y) (filter is_soap (children_of a)) (λ x. refl);
  header = λ is. record {
    messaging = pairs_same (λ (x y : Element). x ≡ y) (named name.Messaging (children_of a)) (λ x. refl);
    asks = refl;
  };
}

pub opened : (levels : ℕ) (a b : Element) → ReadAlike levels a b → IsReadAlike (ReadAlike (below levels)) a b
unfolding below
opened zero a b same = subst (λ (x : Element). IsReadAlike (λ y z. y ≡ z) a x) same (read_itself a)
opened (suc levels) a b alike = alike

-- elements of ebMS that are read alike
pub record AreRead (levels : ℕ) (a b : Element) : Type 0 where
  pub ebms : is_ebms a ≡ true
  pub alike : ReadAlike levels a b

-- a reading that gives the same for them
abbrev pub Respects : {X : Type 0} → (Element → Option X) → Type 0
Respects reading = (levels : ℕ) (a b : Element) → AreRead levels a b → reading a ≡ reading b

-- the children of a name

pub named_read : (label : ElementName) (levels : ℕ) (a b : Element) → AreRead levels a b
    → Pairwise (AreRead (below levels)) (named label (children_of a)) (named label (children_of b))
unfolding is_named called
named_read label levels a b read =
    let pairs : Pairwise (ReadAlike (below levels)) (named label (children_of a)) (named label (children_of b)) =
    ((opened levels a b read.alike).of_ebms read.ebms).children (element_name label) in
    pairs_map (λ x y. ReadAlike (below levels) x y × (is_named label x ≡ true)) (AreRead (below levels)) (named label (children_of a)) (named label (children_of b))
    (λ x y both. record { ebms = named_ebms label x both.1; alike = both.0 })
    (pairs_passed (ReadAlike (below levels)) (is_named label) (children_of a) (children_of b) pairs)

values_read : {X : Type 0} (reading : Element → Option X) (label : ElementName) → Respects reading → (levels : ℕ) (a b : Element) → AreRead levels a b
    → Pairwise (λ x y. reading x ≡ reading y) (named label (children_of a)) (named label (children_of b))
values_read reading label same levels a b read =
    pairs_map (AreRead (below levels)) (λ x y. reading x ≡ reading y) (named label (children_of a)) (named label (children_of b))
    (same (below levels)) (named_read label levels a b read)

one_value : {X : Type 0} (reading : Element → Option X) (xs ys : List Element) → Pairwise (λ x y. reading x ≡ reading y) xs ys
    → (at_most_one xs >>= read_one reading) ≡ (at_most_one ys >>= read_one reading)
one_value reading [] [] pairs = refl
one_value reading [] (y ∷ ys) pairs = absurd pairs
one_value reading (x ∷ xs) [] pairs = absurd pairs
one_value reading (x ∷ []) (y ∷ []) pairs = pairs.0
one_value reading (x ∷ []) (y ∷ z ∷ ys) pairs = absurd pairs.1
one_value reading (x ∷ z ∷ xs) (y ∷ []) pairs = absurd pairs.1
one_value reading (x ∷ w ∷ xs) (y ∷ z ∷ ys) pairs = refl

maybe_value : {X : Type 0} (reading : Element → Option X) (xs ys : List Element) → Pairwise (λ x y. reading x ≡ reading y) xs ys
    → (at_most_one xs >>= read_if_some reading) ≡ (at_most_one ys >>= read_if_some reading)
maybe_value reading [] [] pairs = refl
maybe_value reading [] (y ∷ ys) pairs = absurd pairs
maybe_value reading (x ∷ xs) [] pairs = absurd pairs
maybe_value reading (x ∷ []) (y ∷ []) pairs = ap (option_map Some) pairs.0
maybe_value reading (x ∷ []) (y ∷ z ∷ ys) pairs = absurd pairs.1
maybe_value reading (x ∷ z ∷ xs) (y ∷ []) pairs = absurd pairs.1
maybe_value reading (x ∷ w ∷ xs) (y ∷ z ∷ ys) pairs = refl

each_value : {X : Type 0} (reading : Element → Option X) (xs ys : List Element) → Pairwise (λ x y. reading x ≡ reading y) xs ys
    → each reading xs ≡ each reading ys
each_value reading [] [] pairs = refl
each_value reading [] (y ∷ ys) pairs = absurd pairs
each_value reading (x ∷ xs) [] pairs = absurd pairs
each_value reading (x ∷ xs) (y ∷ ys) pairs = rw (pairs.0, each_value reading xs ys pairs.1) refl

pub child_same : {X : Type 0} (reading : Element → Option X) (label : ElementName) → Respects reading → Respects (child reading label)
unfolding child
child_same reading label same levels a b read = one_value reading _ _ (values_read reading label same levels a b read)

pub optional_child_same : {X : Type 0} (reading : Element → Option X) (label : ElementName) → Respects reading → Respects (optional_child reading label)
unfolding optional_child
optional_child_same reading label same levels a b read = maybe_value reading _ _ (values_read reading label same levels a b read)

pub children_same : {X : Type 0} (reading : Element → Option X) (label : ElementName) → Respects reading → Respects (children reading label)
unfolding children
children_same reading label same levels a b read = each_value reading _ _ (values_read reading label same levels a b read)

-- attributes

pub attribute_same : {X : Type 0} (reading : List ℕ → Option X) (label : AttributeName) → Respects (attribute reading label)
unfolding attribute
attribute_same reading label levels a b read = ap (λ value. value >>= reading) (((opened levels a b read.alike).of_ebms read.ebms).attributes label)

pub optional_attribute_same : {X : Type 0} (reading : List ℕ → Option X) (label : AttributeName) → Respects (optional_attribute reading label)
unfolding optional_attribute
optional_attribute_same reading label levels a b read = ap (optional_value reading) (((opened levels a b read.alike).of_ebms read.ebms).attributes label)

-- whether an element has children of ebMS with other names

misplaced_ebms : (is others : Bool) → not (not is || others) ≡ true → is ≡ true
misplaced_ebms true others e = refl
misplaced_ebms false others e = absurd (false≢true e)

pub holds_same : (labels : List ElementName) (levels : ℕ) (a b : Element) → AreRead levels a b → holds_only labels a ≡ holds_only labels b
unfolding holds_only may_stand called
holds_same labels levels a b read =
    all_by_any (may_stand labels) (children_of a)
    ∙ ap not (any_by_name misplaced (λ x. has_name ebms (out-Element x).local) (children_of a) (children_of b) itself agree)
    ∙ sym (all_by_any (may_stand labels) (children_of b))
  where
    misplaced : Element → Bool
    misplaced e = not (may_stand labels e)

    itself : (x : Element) → misplaced x ≡ true → has_name ebms (out-Element x).local x ≡ true
    itself x is = and_from _ _ (misplaced_ebms (is_ebms x) _ is) (same_bytes (out-Element x).local)

    alike_too : (x y : Element) → ReadAlike (below levels) x y → misplaced x ≡ misplaced y
    alike_too x y alike = let same = (opened (below levels) x y alike).name in rw (same.space, same.local) refl

    agree : (x : Element) → list_any misplaced (filter (has_name ebms (out-Element x).local) (children_of a))
        ≡ list_any misplaced (filter (has_name ebms (out-Element x).local) (children_of b))
    agree x =
        pairs_any (ReadAlike (below levels)) misplaced _ _ alike_too (((opened levels a b read.alike).of_ebms read.ebms).children (out-Element x).local)

-- an element that is read by its text

pub leaf_same : {X : Type 0} (reading : List ℕ → Option X) → Respects (leaf reading)
unfolding leaf
leaf_same {X} reading levels a b read = rw (← holds_same [] levels a b read) (by_test (holds_only [] a) (((opened levels a b read.alike).of_ebms read.ebms).text))
  where
    by_test : (h : Bool) → (h ≡ true → text_in a ≡ text_in b)
        → (if h then reading (text_in a) else None) ≡ (if h then reading (text_in b) else None)
    by_test true same = ap reading (same refl)
    by_test false same = refl
