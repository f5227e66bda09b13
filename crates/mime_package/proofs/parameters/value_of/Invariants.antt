use Rattle.std.proofs.Common.{◌≡◌, drop, map}
use Rattle.mime_fields.specs.Lent.{parameter_of}
use Rattle.mime_package.specs.Reading.{parameter}
use Rattle.mime_package.proofs.parameters.value_of.Given as goal

-- none of the parameters so far has the name
abbrev pub invariant-loop-parameter : goal.invariant-loop-parameter
invariant-loop-parameter l = parameter l.name (map parameter_of l.parameters) ≡ parameter l.name (map parameter_of (drop l.parameter-index l.parameters))
