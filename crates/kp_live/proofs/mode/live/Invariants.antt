use Rattle.kp_hub.specs.State.{first_table}
use Rattle.kp_live.proofs.mode.live.Given as goal

-- the hub is of the parts that were just opened
abbrev pub ghosts-run_opened-A-Ledger : goal.ghosts-run_opened-A-Ledger
ghosts-run_opened-A-Ledger g a =
    record { name = a.opening.accepted.0; parts = a.opening.accepted.1 }

abbrev pub ghosts-run_opened-C-Ledger : goal.ghosts-run_opened-C-Ledger
ghosts-run_opened-C-Ledger g a =
    record { name = a.opening.refused.0; parts = a.opening.refused.1 }

abbrev pub ghosts-run_opened-J-Publication : goal.ghosts-run_opened-J-Publication
ghosts-run_opened-J-Publication g a =
    record { book = a.opening.book; start = first_table a.opening.config }

abbrev pub ghosts-run_opened-J-Sharing : goal.ghosts-run_opened-J-Sharing
ghosts-run_opened-J-Sharing g a = record {
  queue = a.opening.queue;
  streams = a.opening.streams;
  config = a.opening.config;
}
