use Rattle.std.proofs.Common.{length, map}
use Rattle.mime_fields.specs.Fields.{max_fields}
use Rattle.mime_fields.specs.Lent.{field_of}
use Rattle.mime_fields.proofs.FieldLemmas.{GoOn}
use Rattle.mime_fields.proofs.fields.read_head.Given as goal

-- the fields so far precede those of the rest
abbrev pub invariant-loop-fields : goal.invariant-loop-fields
invariant-loop-fields l = GoOn max_fields l.bytes (map field_of l.fields.items) l.rest

abbrev pub decreases-loop-fields : goal.decreases-loop-fields
decreases-loop-fields l = length l.rest
