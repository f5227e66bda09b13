-- Trees that differ only in the order of children with different names are read alike.
use Rattle.std.proofs.Common.{◌≡◌, ℕ, zero, suc, Bool, not, ◌&&◌, refl, ap}
use Rattle.std.proofs.lemmas.Bool.{and_from}
use Rattle.as4_envelope.specs.Tree.{ebms}
use Rattle.as4_envelope.specs.declared.tree.Element.{Element}
use Rattle.as4_envelope.specs.declared.tree.Element.TheViews.{out-Element}
use Rattle.header_reader.specs.Elements.{attribute_of, children_of, is_named}
use Rattle.header_reader.specs.Envelope.{asks_for_more, must_be_understood}
use Rattle.header_reader.specs.Names.{element_name}
use Rattle.header_reader.specs.declared.names.ElementName.TheVariants as name
use Rattle.unit_laws.specs.Alike.{IsSameByName, ReadAlike, SameByName, called, has_name}
use Rattle.unit_laws.proofs.AlikeLemmas.{same_bytes}
use Rattle.unit_laws.proofs.PairLemmas.{any_by_name, pairs_any, pairs_map}

-- a block other than `eb:Messaging` that must be understood
asks : Element → Bool
asks block = not (is_named name.Messaging block) && must_be_understood block

asks_alike : (levels : ℕ) (x y : Element) → SameByName levels x y → asks x ≡ asks y
unfolding asks is_named must_be_understood
asks_alike zero x y same = ap asks same
asks_alike (suc levels) x y same = rw (same.name.space, same.name.local, same.attributes) refl

blocks_alike : (levels : ℕ) (a b : Element) → IsSameByName (SameByName levels) a b → asks_for_more (children_of a) ≡ asks_for_more (children_of b)
unfolding asks asks_for_more called
blocks_alike levels a b same =
    any_by_name asks (λ x. has_name (out-Element x).space (out-Element x).local) (children_of a) (children_of b)
    (λ x is. and_from _ _ (same_bytes (out-Element x).space) (same_bytes (out-Element x).local))
    (λ x. pairs_any (SameByName levels) asks _ _ (asks_alike levels) (same.children (out-Element x).space (out-Element x).local))

pub read_by_name : (levels : ℕ) (a b : Element) → SameByName levels a b → ReadAlike levels a b
unfolding is_named called attribute_of
read_by_name zero a b same = same
read_by_name (suc levels) a b same = record {
  name = same.name;
  of_ebms = λ is. record {
    attributes = λ label. rw same.attributes refl;
    text = λ leaf. same.text;
    children = λ local. pairs_map (SameByName levels) (ReadAlike levels) _ _ (read_by_name levels) (same.children ebms local);
  };
  envelope = λ is. pairs_map (SameByName levels) (ReadAlike levels) _ _ (read_by_name levels) same.soap;
  header = λ is. record {
    messaging = pairs_map (SameByName levels) (ReadAlike levels) _ _ (read_by_name levels) (same.children ebms (element_name name.Messaging));
    asks = blocks_alike levels a b same;
  };
}
