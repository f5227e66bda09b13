use Rattle.std.proofs.Common.{◌≡◌, map, take}
use Rattle.msh_state.specs.Rooms.{queue_for}
use Rattle.msh_core.proofs.applying.queues_for.Given as goal

-- those so far have their queues
abbrev pub invariant-loop-effect : goal.invariant-loop-effect
invariant-loop-effect l = l.queues.items ≡ map (queue_for l.tables.end.sent) (take l.effect-index l.effect-items)
