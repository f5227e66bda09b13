use Rattle.std.proofs.Common.{◌≡◌, false, take}
use Rattle.std.specs.List.{list_any}
use Rattle.msh_transitions.proofs.refusing.has_number.Given as goal
use Rattle.msh_transitions.specs.Naming.{has_number}

-- none of the effects so far refuses it
abbrev pub invariant-loop-effect : goal.invariant-loop-effect
invariant-loop-effect l = list_any (has_number l.number) (take l.effect-index l.effects) ≡ false
