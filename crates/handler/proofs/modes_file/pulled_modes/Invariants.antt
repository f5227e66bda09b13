use Rattle.std.proofs.Common.{◌≡◌, ◌≤◌, ◌<◌, length, take}
use Rattle.handler.specs.Handling.{pulled}
use Rattle.handler.proofs.modes_file.pulled_modes.Given as goal

-- the first modes were looked at
abbrev pub invariant-loop-place : goal.invariant-loop-place
invariant-loop-place l = (l.names.items ≡ pulled (take l.place l.modes)) × (0 < l.place → length l.modes ≤ 1024)
