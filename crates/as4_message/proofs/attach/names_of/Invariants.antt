use Rattle.std.proofs.Common.{◌≡◌, ◌++◌, option_map, drop}
use Rattle.as4_values.specs.Pairing.{named_by}
use Rattle.as4_message.proofs.attach.names_of.Given as goal

-- the names so far precede those of the other part infos
abbrev pub invariant-loop-info : goal.invariant-loop-info
invariant-loop-info l = named_by l.infos ≡ option_map (λ more. l.names.items ++ more) (named_by (drop l.info-index l.infos))
