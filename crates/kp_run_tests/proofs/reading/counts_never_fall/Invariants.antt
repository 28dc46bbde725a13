use Rattle.kp_run_tests.proofs.reading.counts_never_fall.Given as goal

-- the history that was just opened, and the table to start from
abbrev pub ghosts-last_seen : goal.ghosts-last_seen
ghosts-last_seen g a = record { book = a.opened; start = a.start.now }
