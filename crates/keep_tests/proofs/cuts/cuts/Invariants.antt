use Rattle.std.proofs.Common.{true}
use Rattle.keep_tests.proofs.cuts.cuts.Given as goal

-- the opening that was just made
abbrev pub ghosts-after_cuts : goal.ghosts-after_cuts
ghosts-after_cuts g a = record { book = a.office.book; modes = a.office.modes; start = a.office.end; observable = true }
