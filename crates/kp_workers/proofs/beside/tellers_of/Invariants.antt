use Rattle.std.proofs.Common.{◌≡◌, ℕ, map, take, slice_get, IfSome, None}
use Rattle.kp_workers.specs.Texts.{kept_in, left_in}
use Rattle.kp_workers.proofs.beside.tellers_of.Given as goal

-- the first workers are told of, and memory was refused to none of them
abbrev pub invariant-loop-worker : goal.invariant-loop-worker
invariant-loop-worker l = record {
  none : (w : ℕ) → IfSome (slice_get (take l.worker-index l.workers) w) (λ x. x.refused ≡ None);
  kept : map left_in l.tellers.items ≡ map (λ x. kept_in x.texts) (take l.worker-index l.workers);
}
