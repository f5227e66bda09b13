use Rattle.std.proofs.Common.{◌≡◌, take}
use Rattle.drill_world.proofs.naming.copies_of.Given as goal

-- the copies so far are the modes so far
abbrev pub invariant-loop-mode : goal.invariant-loop-mode
invariant-loop-mode l = l.copies.items ≡ take l.mode-index l.modes
