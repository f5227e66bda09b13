use Rattle.std.proofs.Common.{true}
use Rattle.round_tests.proofs.halts.ends.Given as goal

-- the opening that was just made
abbrev pub ghosts-two_ends : goal.ghosts-two_ends
ghosts-two_ends g a = record { book = a.office.book; modes = a.office.modes; start = a.office.end; observable = true }
