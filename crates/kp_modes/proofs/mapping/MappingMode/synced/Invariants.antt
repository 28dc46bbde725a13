use Rattle.kp_modes.proofs.mapping.MappingMode.synced.Given as goal

-- the ledger is that of the blank
abbrev pub ghosts-follow : goal.ghosts-follow
ghosts-follow a = record { name = a.blank.name; parts = a.blank.parts }
