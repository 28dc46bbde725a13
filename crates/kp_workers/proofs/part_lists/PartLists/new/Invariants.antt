use Rattle.std.proofs.Common.{◌≡◌, replicate}
use Rattle.kp_recent.specs.Held.{no_sources}
use Rattle.kp_workers.specs.Workers.{lists_of}
use Rattle.kp_workers.proofs.part_lists.PartLists.new.Given as goal

-- the first workers have no sources
abbrev pub invariant-loop-worker : goal.invariant-loop-worker
invariant-loop-worker l = lists_of l.all.items ≡ replicate l._worker (no_sources l.size)
