use Rattle.std.proofs.Common.{◌≡◌, drop, map, option_map}
use Rattle.mime_fields.specs.Fields.{unfolded, value_of}
use Rattle.mime_fields.specs.Lent.{field_of}
use Rattle.mime_fields.proofs.FieldLemmas.{named, one_of}
use Rattle.mime_fields.proofs.fields.lines_of.Given as goal

-- the result depends on the lines found so far and on the remaining fields
abbrev pub invariant-loop-field : goal.invariant-loop-field
invariant-loop-field l =
    value_of l.name (map field_of l.fields) ≡ one_of (option_map (λ lines. unfolded lines.now) l.found) (named l.name (map field_of (drop l.field-index l.fields)))
