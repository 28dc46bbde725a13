use Rattle.std.proofs.Common.{◌≡◌, ◌++◌, map, drop, length}
use Rattle.kp_part_laws.specs.Beside.{in_turn, worker_of}
use Rattle.kp_workers.specs.Walks.{all_told, part_in}
use Rattle.kp_workers.proofs.walks.take_in_turn.Given as goal

-- the answers to the first packets, with those that are left, are all in turn
abbrev pub invariant-loop-packet : goal.invariant-loop-packet
invariant-loop-packet l = record {
  long : length l.queues ≡ length l.initial.queues;
  told :
      all_told l.answers.items
      ++ in_turn (λ x. worker_of (length l.initial.queues) (part_in x))
      (drop l.packet-index l.packets) (map (λ q. all_told q.items) l.queues)
      ≡ in_turn (λ x. worker_of (length l.initial.queues) (part_in x)) l.packets
      (map (λ q. all_told q.items) l.initial.queues);
}
