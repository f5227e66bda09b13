use Rattle.std.proofs.Common.{◌≡◌, take}
use Rattle.exchange_model.specs.Refusing.{refusals_of}
use Rattle.msh_transitions.proofs.refusing.refusals_of.Given as goal

-- the refusals of the items so far
abbrev pub invariant-loop-item : goal.invariant-loop-item
invariant-loop-item l = l.effects.items ≡ refusals_of l.ref_to l.tables.end.sent (take l.item-index l.items)
