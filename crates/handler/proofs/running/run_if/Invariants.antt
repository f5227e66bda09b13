use Rattle.std.proofs.Common.{is_some}
use Rattle.handler.proofs.running.run_if.Given as goal

-- the opening that was just made
abbrev pub ghosts-run_office : goal.ghosts-run_office
ghosts-run_office g a = record { book = a.office.book; modes = a.office.modes; start = a.office.end; observable = is_some (g.D.Disk.seen a.office.disk) }
