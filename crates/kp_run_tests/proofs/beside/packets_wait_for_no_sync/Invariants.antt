use Rattle.kp_hub.specs.State.{first_table}
use Rattle.kp_run_tests.proofs.beside.packets_wait_for_no_sync.Given as goal

-- the hub is of the parts that were just opened
abbrev pub ghosts-hub_answers_beside-J-Publication : goal.ghosts-hub_answers_beside-J-Publication
ghosts-hub_answers_beside-J-Publication g a =
    record { book = a.opening.book; start = first_table a.opening.config }

abbrev pub ghosts-hub_answers_beside-J-Sharing : goal.ghosts-hub_answers_beside-J-Sharing
ghosts-hub_answers_beside-J-Sharing g a = record {
  queue = a.opening.queue;
  streams = a.opening.streams;
  config = a.opening.config;
}

abbrev pub ghosts-hub_answers_beside-A-Ledger : goal.ghosts-hub_answers_beside-A-Ledger
ghosts-hub_answers_beside-A-Ledger g a =
    record { name = a.opening.accepted.0; parts = a.opening.accepted.1 }

abbrev pub ghosts-hub_answers_beside-C-Ledger : goal.ghosts-hub_answers_beside-C-Ledger
ghosts-hub_answers_beside-C-Ledger g a =
    record { name = a.opening.refused.0; parts = a.opening.refused.1 }
