-- Trees that are kept by their text: they can be written, and are read back from it.
use Rattle.std.specs.Prelude.{ℕ, ◌≤◌, List, ◌++◌, IsTrue, codes}
use Rattle.std.specs.List.{AllByRecursion}
use Rattle.as4_envelope.specs.Writable.{fits}
use Rattle.as4_envelope.specs.declared.tree.Element.{Element}
use Rattle.as4_values.specs.Texts.{is_xml}
use Rattle.as4_values.specs.declared.header.Agreement.{Agreement}
use Rattle.as4_values.specs.declared.message.Unit.{Unit as MessageUnit}
use Rattle.as4_values.specs.declared.signal_body.SignalBody.{SignalBody}
use Rattle.message_model.specs.UnitTree.{leaf as leaf_tree, optional_attributes, body_trees, unit_trees}
use Rattle.tree_reader.specs.Readable.{has_names}

-- a text or a value consists of characters of XML
abbrev pub IsXmlText : List ℕ → Type 0
IsXmlText text = IsTrue (is_xml text)

-- with this many levels left, the tree can be written, and its local names are names: so it is read back from its text
unfoldable pub IsKept : ℕ → Element → Type 0
IsKept deep tree = ((levels : ℕ) → deep ≤ levels → IsTrue (fits tree levels)) × IsTrue (has_names tree)

-- the element of the agreement, and the elements in a signal message and in an envelope
abbrev pub AgreementKept : Agreement → Type 0
AgreementKept a =
    IsKept 1 (leaf_tree (codes "AgreementRef") (optional_attributes (codes "type") a.kind ++ optional_attributes (codes "pmode") a.pmode) a.value)

unfoldable pub BodyKept : SignalBody → Type 0
BodyKept body = AllByRecursion (IsKept 6) (body_trees body)

unfoldable pub UnitKept : MessageUnit → Type 0
UnitKept u = AllByRecursion (IsKept 7) (unit_trees u)
