-- Trees that the reader of headers reads alike: they differ only where the reader doesn't look.
use Rattle.std.specs.Prelude.{◌≡◌, ℕ, zero, suc, List, [], Bool, true, ◌&&◌, bytes_eq, codes}
use Rattle.std.specs.List.{filter}
use Rattle.as4_envelope.specs.Tree.{ebms}
use Rattle.as4_envelope.specs.declared.tree.Element.{Element}
use Rattle.as4_envelope.specs.declared.tree.Element.TheViews.{out-Element}
use Rattle.header_reader.specs.Elements.{attribute_of, children_of, holds_only, is_ebms, named, text_in}
use Rattle.header_reader.specs.Envelope.{asks_for_more, is_soap, is_soap_named}
use Rattle.header_reader.specs.declared.names.AttributeName.{AttributeName}
use Rattle.header_reader.specs.declared.names.ElementName.TheVariants as name
use Rattle.unit_laws.specs.Pairs.{Pairwise}

abbrev pub has_name : List ℕ → List ℕ → Element → Bool
has_name space local e = bytes_eq (out-Element e).space space && bytes_eq (out-Element e).local local

-- the elements with this expanded name, in order
unfoldable pub called : List ℕ → List ℕ → List Element → List Element
called space local elements = filter (has_name space local) elements

-- the expanded names are the same
pub record SameName (a b : Element) : Type 0 where
  pub space : (out-Element a).space ≡ (out-Element b).space
  pub local : (out-Element a).local ≡ (out-Element b).local

-- the children of each name are related, in their order, and those of SOAP in the order that they have together; all else
-- is the same
pub record IsSameByName (related : Element → Element → Type 0) (a b : Element) : Type 0 where
  pub name : SameName a b
  pub attributes : (out-Element a).attributes ≡ (out-Element b).attributes
  pub text : text_in a ≡ text_in b
  pub children : (space local : List ℕ) → Pairwise related (called space local (children_of a)) (called space local (children_of b))
  pub soap : Pairwise related (filter is_soap (children_of a)) (filter is_soap (children_of b))

-- two trees that differ only in the order of children with different names, on this many levels; the elements of SOAP keep
-- their order
abbrev pub SameByName : ℕ → Element → Element → Type 0
SameByName zero a b = a ≡ b
SameByName (suc levels) a b = IsSameByName (SameByName levels) a b

-- of an element of ebMS: the attributes with the names that are known, the text where no child is of ebMS, and the children
-- of ebMS, name by name
pub record SameInEbms (related : Element → Element → Type 0) (a b : Element) : Type 0 where
  pub attributes : (label : AttributeName) → attribute_of label a ≡ attribute_of label b
  pub text : holds_only [] a ≡ true → text_in a ≡ text_in b
  pub children : (local : List ℕ) → Pairwise related (called ebms local (children_of a)) (called ebms local (children_of b))

-- of the blocks of a header: each `eb:Messaging`, and whether another one must be understood
pub record SameBlocks (related : Element → Element → Type 0) (blocks others : List Element) : Type 0 where
  pub messaging : Pairwise related (named name.Messaging blocks) (named name.Messaging others)
  pub asks : asks_for_more blocks ≡ asks_for_more others

-- two elements with the same name, and what the reader looks at is the same: in an element of ebMS, in an envelope (its
-- elements of SOAP, in order), and in a header
pub record IsReadAlike (related : Element → Element → Type 0) (a b : Element) : Type 0 where
  pub name : SameName a b
  pub of_ebms : is_ebms a ≡ true → SameInEbms related a b
  pub envelope : is_soap_named (codes "Envelope") a ≡ true → Pairwise related (filter is_soap (children_of a)) (filter is_soap (children_of b))
  pub header : is_soap_named (codes "Header") a ≡ true → SameBlocks related (children_of a) (children_of b)

-- two trees that differ only in what the reader skips and in the order of children with different names, on this many
-- levels
abbrev pub ReadAlike : ℕ → Element → Element → Type 0
ReadAlike zero a b = a ≡ b
ReadAlike (suc levels) a b = IsReadAlike (ReadAlike levels) a b
