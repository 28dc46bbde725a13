use Rattle.std.proofs.Common.{◌≡◌, ℕ, take}
use Rattle.std.specs.FinMap.{get}
use Rattle.kp_part_laws.specs.Beside.{worker_of}
use Rattle.kp_workers.specs.Walks.{HaveDraws, WalksOn, part_in, walk_step}
use Rattle.kp_workers.specs.Workers.{done_own}
use Rattle.kp_workers.proofs.walker.walk_own.Given as goal

-- its own of the first packets are walked
abbrev pub invariant-loop-packet : goal.invariant-loop-packet
invariant-loop-packet g l = record {
  walked :
      (drawn : ℕ → ℕ → ℕ)
      → HaveDraws (λ number k draw. g.F.Fn.post l.ground.draws.now (number, (k, tt)) draw) l.packets
      drawn
      → WalksOn (done_own (λ x. worker_of l.place.count (part_in x))
      (walk_step (get l.ground.table.now.chains) l.ground.node.now drawn)
      (take l.packet-index l.packets) l.place.own l.initial.walker.lists) l.initial.walker l.walker;
  size : l.walker.lists.size ≡ l.initial.walker.lists.size;
}
