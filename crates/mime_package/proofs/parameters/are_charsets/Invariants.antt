use Rattle.std.proofs.Common.{◌≡◌, true, take, map, ◌||◌, not}
use Rattle.std.specs.Prelude.{codes}
use Rattle.std.specs.List.{list_all}
use Rattle.mime_fields.specs.Lent.{parameter_of}
use Rattle.mime_fields.specs.MediaTypes.{is_named}
use Rattle.mime_package.specs.Reading.{is_charset}
use Rattle.mime_package.proofs.parameters.are_charsets.Given as goal

-- each character set so far is read
abbrev pub invariant-loop-parameter : goal.invariant-loop-parameter
invariant-loop-parameter l = list_all (λ p. not (is_named (codes "charset") p) || is_charset p.value) (map parameter_of (take l.parameter-index l.parameters)) ≡ true
