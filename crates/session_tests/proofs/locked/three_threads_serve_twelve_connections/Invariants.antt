use Rattle.std.proofs.Common.{true}
use Rattle.session_tests.proofs.locked.three_threads_serve_twelve_connections.Given as goal

-- the opening that was just made
abbrev pub ghosts-in_threads : goal.ghosts-in_threads
ghosts-in_threads g a = record { book = a.office.book; modes = a.office.modes; start = a.office.end; observable = true }
