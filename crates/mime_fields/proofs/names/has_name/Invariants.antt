use Rattle.std.proofs.Common.{◌≡◌, map, drop}
use Rattle.std.specs.List.{list_any}
use Rattle.mime_fields.specs.MediaTypes.{is_named}
use Rattle.mime_fields.specs.Lent.{parameter_of}
use Rattle.mime_fields.proofs.names.has_name.Given as goal

-- the result depends only on the remaining parameters
abbrev pub invariant-loop-parameter : goal.invariant-loop-parameter
invariant-loop-parameter l = list_any (is_named l.name) (map parameter_of l.parameters)
    ≡ list_any (is_named l.name) (map parameter_of (drop l.parameter-index l.parameters))
