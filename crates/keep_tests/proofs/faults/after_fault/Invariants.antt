use Rattle.std.proofs.Common.{true}
use Rattle.keep_tests.proofs.faults.after_fault.Given as goal

-- the opening that was just made
abbrev pub ghosts-breaks : goal.ghosts-breaks
ghosts-breaks g a = record { book = a.office.book; modes = a.office.modes; start = a.office.end; observable = true }
