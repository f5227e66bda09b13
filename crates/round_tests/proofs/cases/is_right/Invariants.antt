use Rattle.std.proofs.Common.{true}
use Rattle.round_tests.proofs.cases.is_right.Given as goal

-- the opening that was just made
abbrev pub ghosts-after : goal.ghosts-after
ghosts-after g a = record { book = a.office.book; modes = a.office.modes; start = a.office.end; observable = true }
