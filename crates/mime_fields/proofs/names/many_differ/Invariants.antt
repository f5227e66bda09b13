use Rattle.std.proofs.Common.{◌≡◌, map, take}
use Rattle.mime_fields.specs.Lent.{parameter_of}
use Rattle.mime_fields.proofs.ApartLemmas.{items_of, lower_name}
use Rattle.mime_fields.proofs.names.many_differ.Given as goal

-- the names so far
abbrev pub invariant-loop-parameter : goal.invariant-loop-parameter
invariant-loop-parameter l = map items_of l.names.items ≡ map lower_name (map parameter_of (take l.parameter-index l.parameters))
