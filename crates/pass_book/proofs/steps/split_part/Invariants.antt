use Rattle.pass_book.proofs.steps.split_part.Given as goal

abbrev pub ghosts-split_named : goal.ghosts-split_named
ghosts-split_named g a = record { stake = a.part }
