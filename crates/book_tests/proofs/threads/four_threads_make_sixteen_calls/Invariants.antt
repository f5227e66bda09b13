use Rattle.book_tests.proofs.threads.four_threads_make_sixteen_calls.Given as goal

-- the opening that was just made
abbrev pub ghosts-call_in_threads : goal.ghosts-call_in_threads
ghosts-call_in_threads g a = record { book = a.keeper.book }
