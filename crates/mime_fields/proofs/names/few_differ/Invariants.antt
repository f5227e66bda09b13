use Rattle.std.proofs.Common.{◌≡◌, map, drop}
use Rattle.mime_fields.specs.MediaTypes.{names_differ}
use Rattle.mime_fields.specs.Lent.{parameter_of}
use Rattle.mime_fields.proofs.names.few_differ.Given as goal

-- the result depends only on the remaining parameters
abbrev pub invariant-loop-at : goal.invariant-loop-at
invariant-loop-at l = names_differ (map parameter_of l.parameters) ≡ names_differ (map parameter_of (drop l.at l.parameters))
