use Rattle.std.proofs.Common.{◌≡◌, map, take}
use Rattle.kp_writer.proofs.refresh.copies.Given as goal

-- the names so far
abbrev pub invariant-loop-port : goal.invariant-loop-port
invariant-loop-port l = l.copies.items ≡ map (λ k. k.now) (take l.port-index l.ports)
