-- A written unit is read back, since its text is that of its tree.
use Rattle.std.proofs.Common.{◌≤◌, length, arith}
use Rattle.as4_envelope.specs.Tree.{tree_text}
use Rattle.as4_values.specs.declared.message.Unit.{Unit as MessageUnit}
use Rattle.message_model.proofs.TreeLemmas.{text_of_tree}
use Rattle.message_model.specs.UnitText.{unit_text, envelope_text}
use Rattle.message_model.specs.UnitTree.{unit_trees, unit_tree}
use Rattle.tree_reader.proofs.CanonicalLemmas.{text_is_document}
use Rattle.tree_reader.specs.Documents.{limit}
use Rattle.unit_laws.proofs.SignalAgain.{unit_again}
use Rattle.unit_laws.proofs.SignalKept.{envelope_kept}
use Rattle.unit_laws.specs.Again.{UnitAgain}
use Rattle.unit_laws.specs.Kept.{IsKept, UnitKept}
use Rattle.unit_laws.specs.ReadAgain.{IsReadAgain}

pub unit_read_again : (u : MessageUnit) → UnitAgain u → UnitKept u → IsReadAgain (envelope_text (unit_text u)) u
unfolding IsKept UnitKept
unit_read_again u again kept short =
    let text = text_of_tree u in
    let whole = envelope_kept (unit_trees u) kept in
    let within : length (tree_text (unit_tree u)) ≤ limit = rw text at short in
    (unit_tree u, rw text (text_is_document (unit_tree u) (whole.0 32 (omega arith)) whole.1 within), unit_again u again)
