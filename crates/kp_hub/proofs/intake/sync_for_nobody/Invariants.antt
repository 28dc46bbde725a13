use Rattle.kp_hub.proofs.intake.sync_for_nobody.Given as goal

-- each ledger is that of its blank
abbrev pub ghosts-sync_counted-L-Ledger : goal.ghosts-sync_counted-L-Ledger
ghosts-sync_counted-L-Ledger a = record { name = a.rules.name; parts = a.rules.parts }

abbrev pub ghosts-sync_counted-A-Ledger : goal.ghosts-sync_counted-A-Ledger
ghosts-sync_counted-A-Ledger a = record { name = a.ports.name; parts = a.ports.parts }
