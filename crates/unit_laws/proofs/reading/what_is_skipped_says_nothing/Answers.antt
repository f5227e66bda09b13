use Rattle.unit_laws.proofs.EnvelopeAlike.{unit_same}
use Rattle.unit_laws.proofs.ShownAlike.{deeper, foreign_child, other_text, unknown_attribute}
use Rattle.unit_laws.proofs.reading.what_is_skipped_says_nothing.Goals as goal

pub returns-clause-same : goal.returns-clause-same
returns-clause-same c = unit_same

pub returns-clause-child : goal.returns-clause-child
returns-clause-child c = foreign_child

pub returns-clause-text : goal.returns-clause-text
returns-clause-text c = other_text

pub returns-clause-attribute : goal.returns-clause-attribute
returns-clause-attribute c = unknown_attribute

pub returns-clause-deeper : goal.returns-clause-deeper
returns-clause-deeper c = deeper
