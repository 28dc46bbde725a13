use Rattle.kp_run_tests.proofs.telling.a_reader_sees_all_that_it_was_told.Given as goal

-- the history that was just opened, and the table to start from
abbrev pub ghosts-told : goal.ghosts-told
ghosts-told g a = record { book = a.opened; start = a.start.now }
