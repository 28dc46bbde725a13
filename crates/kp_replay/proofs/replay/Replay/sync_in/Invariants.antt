use Rattle.kp_replay.proofs.replay.Replay.sync_in.Given as goal

-- each ledger is that of its blank
abbrev pub ghosts-noted-L-Ledger : goal.ghosts-noted-L-Ledger
ghosts-noted-L-Ledger g a = record { name = a.rules.name; parts = a.rules.parts }

abbrev pub ghosts-noted-A-Ledger : goal.ghosts-noted-A-Ledger
ghosts-noted-A-Ledger g a = record { name = a.ports.name; parts = a.ports.parts }
