use Rattle.kp_decide.proofs.made.infos_at.Given as goal

-- the ledger is that of the blank
abbrev pub ghosts-infos_uncounted : goal.ghosts-infos_uncounted
ghosts-infos_uncounted a = record { name = a.blank.name; parts = a.blank.parts }
