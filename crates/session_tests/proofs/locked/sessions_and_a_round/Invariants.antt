use Rattle.std.proofs.Common.{true}
use Rattle.session_tests.proofs.locked.sessions_and_a_round.Given as goal

-- the opening that was just made
abbrev pub ghosts-one_after_another : goal.ghosts-one_after_another
ghosts-one_after_another g a = record { book = a.office.book; modes = a.office.modes; start = a.office.end; observable = true }
