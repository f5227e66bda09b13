use Rattle.std.proofs.Common.{◌≡◌, take}
use Rattle.as4_audit.proofs.mode_list.list_of.Given as goal

-- the modes so far
abbrev pub invariant-loop-place : goal.invariant-loop-place
invariant-loop-place l = l.list.items ≡ take l.place l.modes
