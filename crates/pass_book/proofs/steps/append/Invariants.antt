use Rattle.std.proofs.Common.{Some}
use Rattle.pass_book.proofs.steps.append.Given as goal

abbrev pub ghosts-append_named : goal.ghosts-append_named
ghosts-append_named g a = record { entry = Some a.entry.now }
