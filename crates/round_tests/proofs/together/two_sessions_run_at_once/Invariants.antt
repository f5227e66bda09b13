use Rattle.std.proofs.Common.{true}
use Rattle.round_tests.proofs.together.two_sessions_run_at_once.Given as goal

-- the opening that was just made
abbrev pub ghosts-shares : goal.ghosts-shares
ghosts-shares g a = record { book = a.office.book; modes = a.office.modes; start = a.office.end; observable = true }
