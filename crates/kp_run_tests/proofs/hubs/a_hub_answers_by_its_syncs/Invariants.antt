use Rattle.kp_hub.specs.State.{first_table}
use Rattle.kp_run_tests.proofs.hubs.a_hub_answers_by_its_syncs.Given as goal

-- the hub is of the parts that were just opened
abbrev pub ghosts-told-J-Publication : goal.ghosts-told-J-Publication
ghosts-told-J-Publication g a =
    record { book = a.opening.book; start = first_table a.opening.config }

abbrev pub ghosts-told-J-Sharing : goal.ghosts-told-J-Sharing
ghosts-told-J-Sharing g a = record {
  queue = a.opening.queue;
  streams = a.opening.streams;
  config = a.opening.config;
}

abbrev pub ghosts-told-A-Ledger : goal.ghosts-told-A-Ledger
ghosts-told-A-Ledger g a =
    record { name = a.opening.accepted.0; parts = a.opening.accepted.1 }

abbrev pub ghosts-told-C-Ledger : goal.ghosts-told-C-Ledger
ghosts-told-C-Ledger g a =
    record { name = a.opening.refused.0; parts = a.opening.refused.1 }
