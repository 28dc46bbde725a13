use Rattle.kp_bench.proofs.mapping.map_of.Given as goal

-- the ledger is that of the blank
abbrev pub ghosts-replaced : goal.ghosts-replaced
ghosts-replaced a = record { name = a.blank.name; parts = a.blank.parts }
