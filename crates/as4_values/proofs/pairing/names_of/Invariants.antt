use Rattle.std.proofs.Common.{◌≡◌, ◌++◌, option_map, drop}
use Rattle.as4_values.specs.Pairing.{named_by}
use Rattle.as4_values.proofs.pairing.names_of.Given as goal

-- the names so far, followed by those of the remaining part infos
abbrev pub invariant-loop-part : goal.invariant-loop-part
invariant-loop-part l = named_by l.parts ≡ option_map (λ more. l.names.items ++ more) (named_by (drop l.part-index l.parts))
