use Rattle.std.proofs.Common.{true}
use Rattle.keep_tests.proofs.guests.is_right.Given as goal

-- the opening that was just made
abbrev pub ghosts-after_turns : goal.ghosts-after_turns
ghosts-after_turns g a = record { book = a.office.book; modes = a.office.modes; start = a.office.end; observable = true }
