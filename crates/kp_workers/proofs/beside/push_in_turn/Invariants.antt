use Rattle.std.proofs.Common.{◌≡◌, ◌++◌, ℕ, List, map, drop, length}
use Rattle.std.specs.List.{concat}
use Rattle.kp_part_laws.specs.Beside.{in_turn, worker_of}
use Rattle.kp_workers.specs.Texts.{AreKept, BeginsWith, left_in}
use Rattle.kp_workers.specs.Workers.{kept_of}
use Rattle.kp_workers.proofs.beside.push_in_turn.Given as goal

-- the texts of the first items are told, and those of the others are left
abbrev pub invariant-loop-item : goal.invariant-loop-item
invariant-loop-item g l = record {
  long : length l.tellers.items ≡ length l.workers;
  told :
      (told : List (List (List ℕ))) → AreKept (kept_of l.workers) told
      → (rest : List (List (List ℕ))) × AreKept (map left_in l.tellers.items) rest
      × (l.initial.out.items ++ concat (in_turn
      (λ x. worker_of (length l.workers) (g.W.Work.part l.work x)) l.items told)
      ≡ l.out.items ++ concat (in_turn
      (λ x. worker_of (length l.workers) (g.W.Work.part l.work x))
      (drop l.item-index l.items) rest));
  front : BeginsWith l.out.items l.initial.out.items;
}
