use Rattle.kp_run_tests.proofs.calls.answer.Given as goal

-- each ledger is that of its blank
abbrev pub ghosts-push_table-L-Ledger : goal.ghosts-push_table-L-Ledger
ghosts-push_table-L-Ledger a = record { name = a.rules.name; parts = a.rules.parts }

abbrev pub ghosts-push_table-A-Ledger : goal.ghosts-push_table-A-Ledger
ghosts-push_table-A-Ledger a = record { name = a.ports.name; parts = a.ports.parts }
