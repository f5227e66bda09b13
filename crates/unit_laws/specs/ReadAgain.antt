-- A written unit is read back.
use Rattle.std.specs.Prelude.{ℕ, ◌≤◌, List, length}
use Rattle.as4_envelope.specs.declared.tree.Element.{Element}
use Rattle.as4_values.specs.declared.message.Unit.{Unit as MessageUnit}
use Rattle.header_reader.specs.Envelope.{SpellsUnit}
use Rattle.tree_reader.specs.Documents.{limit, IsDocument}

-- if the text is at most as long as a document may be, it is a document, and its tree spells this unit
abbrev pub IsReadAgain : List ℕ → MessageUnit → Type 0
IsReadAgain text unit = length text ≤ limit → (tree : Element) × IsDocument text tree × SpellsUnit tree unit
