-- Single changes of an element that leave it alike.
use Rattle.std.proofs.Common.{◌≡◌, ℕ, zero, suc, List, [], ◌∷◌, ◌++◌, Bool, true, false, not, ◌&&◌, refl, sym, ap, ◌∙◌, subst}
use Rattle.std.specs.Prelude.{bytes_eq, if◌then◌else◌, option_map}
use Rattle.std.specs.List.{filter, find, list_any}
use Rattle.std.proofs.lemmas.Bool.{and_parts, and_from, false≢true}
use Rattle.std.proofs.lemmas.List.Elements.{filter-append}
use Rattle.std.proofs.lemmas.List.Folds.{find-append, list_any-append}
use Rattle.std.proofs.lemmas.Slice.Eq.{bytes_eq-Decides}
use Rattle.as4_envelope.specs.Tree.{ebms}
use Rattle.as4_envelope.specs.declared.tree.Attribute.{Attribute}
use Rattle.as4_envelope.specs.declared.tree.Element.{Element}
use Rattle.as4_envelope.specs.declared.tree.Element.TheOpen.{Element-F}
use Rattle.as4_envelope.specs.declared.tree.Element.TheViews.{out-Element, out-roll-Element}
use Rattle.header_reader.specs.Elements.{children_of, holds_only, is_ebms, is_named, is_plain, named}
use Rattle.header_reader.specs.Envelope.{asks_for_more, is_soap, is_soap_named, must_be_understood}
use Rattle.header_reader.specs.declared.names.AttributeName.{AttributeName}
use Rattle.header_reader.specs.declared.names.ElementName.TheVariants as name
use Rattle.message_model.specs.UnitTree.{node}
use Rattle.unit_laws.specs.Alike.{ReadAlike, SameByName, SameName, called, has_name}
use Rattle.unit_laws.specs.Pairs.{Pairwise}
use Rattle.unit_laws.proofs.AgainLemmas.{text_node, value_node, view_node, within_node}
use Rattle.unit_laws.proofs.AlikeLemmas.{opened, same_named}
use Rattle.unit_laws.proofs.PairLemmas.{pairs_filter, pairs_same}

-- equal lists are pairwise equal
equal_pairs : {X : Type 0} (xs ys : List X) → xs ≡ ys → Pairwise (λ x y. x ≡ y) xs ys
equal_pairs {X} xs ys same = subst (λ (zs : List X). Pairwise (λ x y. x ≡ y) xs zs) same (pairs_same (λ (x y : X). x ≡ y) xs (λ x. refl))

-- two elements with the same name
name_node : (space local text other : List ℕ) (attributes : List Attribute) (es fs : List Element)
    → SameName (node space local attributes text es) (node space local attributes other fs)
name_node space local text other attributes es fs =
    let first = view_node space local text attributes es in
    let second = view_node space local other attributes fs in
    record {
      space = ap (λ (v : Element-F Element). v.space) first ∙ sym (ap (λ (v : Element-F Element). v.space) second);
      local = ap (λ (v : Element-F Element). v.local) first ∙ sym (ap (λ (v : Element-F Element). v.local) second);
    }

not_soap : (name local text : List ℕ) (attributes : List Attribute) (es : List Element) → is_soap_named name (node ebms local attributes text es) ≡ false
unfolding is_soap_named
not_soap name local text attributes es = rw out-roll-Element refl

-- an element of ebMS with other children, of which those of ebMS are the same

filter_one_less : (p : Element → Bool) (front back : List Element) (e : Element) → p e ≡ false → filter p (front ++ back) ≡ filter p (front ++ e ∷ back)
filter_one_less p front back e out =
    filter-append p front back ∙ sym (filter-append p front (e ∷ back) ∙ rw out refl)

pub foreign_child : (local text : List ℕ) (attributes : List Attribute) (front back : List Element) (e : Element) → is_ebms e ≡ false
    → ReadAlike 1 (node ebms local attributes text (front ++ back)) (node ebms local attributes text (front ++ e ∷ back))
unfolding called
foreign_child local text attributes front back e out = record {
  name = name_node ebms local text text attributes (front ++ back) (front ++ e ∷ back);
  of_ebms = λ is. record {
    attributes = λ label. value_node label ebms local text attributes (front ++ back) ∙ sym (value_node label ebms local text attributes (front ++ e ∷ back));
    text = λ leaf. text_node ebms local text attributes (front ++ back) ∙ sym (text_node ebms local text attributes (front ++ e ∷ back));
    children = λ one. equal_pairs _ _ (
        ap (called ebms one) (within_node ebms local text attributes (front ++ back))
        ∙ filter_one_less (has_name ebms one) front back e (rw out refl)
        ∙ sym (ap (called ebms one) (within_node ebms local text attributes (front ++ e ∷ back))));
  };
  envelope = λ is. absurd (false≢true (sym (not_soap _ local text attributes (front ++ back)) ∙ is));
  header = λ is. absurd (false≢true (sym (not_soap _ local text attributes (front ++ back)) ∙ is));
}

-- an element of ebMS with another text, where it has a child of ebMS
pub other_text : (local text other : List ℕ) (attributes : List Attribute) (es : List Element) → holds_only [] (node ebms local attributes text es) ≡ false
    → ReadAlike 1 (node ebms local attributes text es) (node ebms local attributes other es)
unfolding called
other_text local text other attributes es some = record {
  name = name_node ebms local text other attributes es es;
  of_ebms = λ is. record {
    attributes = λ label. value_node label ebms local text attributes es ∙ sym (value_node label ebms local other attributes es);
    text = λ leaf. absurd (false≢true (sym some ∙ leaf));
    children = λ one. equal_pairs _ _ (
        ap (called ebms one) (within_node ebms local text attributes es)
        ∙ sym (ap (called ebms one) (within_node ebms local other attributes es)));
  };
  envelope = λ is. absurd (false≢true (sym (not_soap _ local text attributes es) ∙ is));
  header = λ is. absurd (false≢true (sym (not_soap _ local text attributes es) ∙ is));
}

-- an element of ebMS with one attribute more, which has no known name

find_one_less : {X : Type 0} (p : X → Bool) (front back : List X) (x : X) → p x ≡ false → find p (front ++ back) ≡ find p (front ++ x ∷ back)
find_one_less p front back x out = find-append p front back ∙ sym (find-append p front (x ∷ back) ∙ rw out refl)

pub unknown_attribute : (local text : List ℕ) (front back : List Attribute) (a : Attribute) (es : List Element)
    → ((label : AttributeName) → is_plain label a ≡ false)
    → ReadAlike 1 (node ebms local (front ++ back) text es) (node ebms local (front ++ a ∷ back) text es)
unfolding called
unknown_attribute local text front back a es unknown = record {
  name = record {
    space = ap (λ (v : Element-F Element). v.space) (view_node ebms local text (front ++ back) es) ∙ sym (ap (λ (v : Element-F Element). v.space) (view_node ebms local text (front ++ a ∷ back) es));
    local = ap (λ (v : Element-F Element). v.local) (view_node ebms local text (front ++ back) es) ∙ sym (ap (λ (v : Element-F Element). v.local) (view_node ebms local text (front ++ a ∷ back) es));
  };
  of_ebms = λ is. record {
    attributes = λ label.
        value_node label ebms local text (front ++ back) es
        ∙ ap (option_map (λ (x : Attribute). x.value)) (find_one_less (is_plain label) front back a (unknown label))
        ∙ sym (value_node label ebms local text (front ++ a ∷ back) es);
    text = λ leaf. text_node ebms local text (front ++ back) es ∙ sym (text_node ebms local text (front ++ a ∷ back) es);
    children = λ one. equal_pairs _ _ (
        ap (called ebms one) (within_node ebms local text (front ++ back) es)
        ∙ sym (ap (called ebms one) (within_node ebms local text (front ++ a ∷ back) es)));
  };
  envelope = λ is. absurd (false≢true (sym (not_soap _ local text (front ++ back) es) ∙ is));
  header = λ is. absurd (false≢true (sym (not_soap _ local text (front ++ back) es) ∙ is));
}

-- such a difference, deeper in a tree

alike_itself : (levels : ℕ) (a : Element) → ReadAlike levels a a
alike_itself zero a = refl
alike_itself (suc levels) a = record {
  name = record { space = refl; local = refl };
  of_ebms = λ is. record {
    attributes = λ label. refl;
    text = λ leaf. refl;
    children = λ local. pairs_same (ReadAlike levels) (called ebms local (children_of a)) (alike_itself levels);
  };
  envelope = λ is. pairs_same (ReadAlike levels) (filter is_soap (children_of a)) (alike_itself levels);
  header = λ is. record {
    messaging = pairs_same (ReadAlike levels) (named name.Messaging (children_of a)) (alike_itself levels);
    asks = refl;
  };
}

-- a block other than `eb:Messaging` that must be understood
any_same : (q : Element → Bool) (front back : List Element) (a b : Element) → q a ≡ q b → list_any q (front ++ a ∷ back) ≡ list_any q (front ++ b ∷ back)
any_same q front back a b same = list_any-append q front (a ∷ back) ∙ sym (list_any-append q front (b ∷ back) ∙ rw (← same) refl)

blocks_same : (front back : List Element) (a b : Element) → SameName a b → must_be_understood a ≡ must_be_understood b
    → asks_for_more (front ++ a ∷ back) ≡ asks_for_more (front ++ b ∷ back)
unfolding asks_for_more
blocks_same front back a b same must =
    any_same (λ block. not (is_named name.Messaging block) && must_be_understood block) front back a b
    (rw (same_named name.Messaging a b same, must) refl)

pub deeper : (levels : ℕ) (space local text : List ℕ) (attributes : List Attribute) (front back : List Element) (a b : Element)
    → ReadAlike levels a b → must_be_understood a ≡ must_be_understood b
    → ReadAlike (suc levels) (node space local attributes text (front ++ a ∷ back)) (node space local attributes text (front ++ b ∷ back))
unfolding called is_named
deeper levels space local text attributes front back a b alike must =
    let es : List Element = front ++ a ∷ back in
    let fs : List Element = front ++ b ∷ back in
    let same = (opened levels a b alike).name in
    let here = within_node space local text attributes es in
    let there = within_node space local text attributes fs in
    record {
      name = name_node space local text text attributes es fs;
      of_ebms = λ is. record {
        attributes = λ label. value_node label space local text attributes es ∙ sym (value_node label space local text attributes fs);
        text = λ leaf. text_node space local text attributes es ∙ sym (text_node space local text attributes fs);
        children = λ one. rw (here, there)
            (pairs_filter (ReadAlike levels) (has_name ebms one) front back a b (alike_itself levels) alike (rw (same.space, same.local) refl));
      };
      envelope = λ is. rw (here, there)
          (pairs_filter (ReadAlike levels) is_soap front back a b (alike_itself levels) alike (rw same.space refl));
      header = λ is. record {
        messaging = rw (here, there)
            (pairs_filter (ReadAlike levels) (is_named name.Messaging) front back a b (alike_itself levels) alike (same_named name.Messaging a b same));
        asks = rw (here, there) (blocks_same front back a b same must);
      };
    }

-- two neighbours with different names in the other order

swap_filter : (p : Element → Bool) (front back : List Element) (a b : Element) → (p a ≡ true → p b ≡ true → ⊥)
    → filter p (front ++ a ∷ b ∷ back) ≡ filter p (front ++ b ∷ a ∷ back)
swap_filter p front back a b apart =
    filter-append p front (a ∷ b ∷ back) ∙ ap (λ es. filter p front ++ es) (by_tests (p a) (p b) apart) ∙ sym (filter-append p front (b ∷ a ∷ back))
  where
    by_tests : (first second : Bool) → (first ≡ true → second ≡ true → ⊥)
        → (if first then a ∷ (if second then b ∷ filter p back else filter p back) else (if second then b ∷ filter p back else filter p back))
        ≡ (if second then b ∷ (if first then a ∷ filter p back else filter p back) else (if first then a ∷ filter p back else filter p back))
    by_tests true true both = absurd (both refl refl)
    by_tests true false both = refl
    by_tests false true both = refl
    by_tests false false both = refl

one_name : (space local : List ℕ) (a b : Element) → has_name space local a ≡ true → has_name space local b ≡ true → SameName a b
one_name space local a b first second =
    let those = and_parts (bytes_eq (out-Element a).space space) (bytes_eq (out-Element a).local local) first in
    let these = and_parts (bytes_eq (out-Element b).space space) (bytes_eq (out-Element b).local local) second in
    record {
      space = (bytes_eq-Decides (out-Element a).space space).0 those.0 ∙ sym ((bytes_eq-Decides (out-Element b).space space).0 these.0);
      local = (bytes_eq-Decides (out-Element a).local local).0 those.1 ∙ sym ((bytes_eq-Decides (out-Element b).local local).0 these.1);
    }

pub swapped : (space local text : List ℕ) (attributes : List Attribute) (front back : List Element) (a b : Element) → (SameName a b → ⊥)
    → (is_soap a && is_soap b) ≡ false
    → SameByName 1 (node space local attributes text (front ++ a ∷ b ∷ back)) (node space local attributes text (front ++ b ∷ a ∷ back))
unfolding called
swapped space local text attributes front back a b apart not_both =
    let es : List Element = front ++ a ∷ b ∷ back in
    let fs : List Element = front ++ b ∷ a ∷ back in
    record {
      name = name_node space local text text attributes es fs;
      attributes = ap (λ (v : Element-F Element). v.attributes) (view_node space local text attributes es)
          ∙ sym (ap (λ (v : Element-F Element). v.attributes) (view_node space local text attributes fs));
      text = text_node space local text attributes es ∙ sym (text_node space local text attributes fs);
      children = λ one two. equal_pairs _ _ (
          ap (called one two) (within_node space local text attributes es)
          ∙ swap_filter (has_name one two) front back a b (λ first second. apart (one_name one two a b first second))
          ∙ sym (ap (called one two) (within_node space local text attributes fs)));
      soap = equal_pairs _ _ (
          ap (filter is_soap) (within_node space local text attributes es)
          ∙ swap_filter is_soap front back a b (λ first second. absurd (false≢true (sym not_both ∙ and_from (is_soap a) (is_soap b) first second)))
          ∙ sym (ap (filter is_soap) (within_node space local text attributes fs)));
    }
