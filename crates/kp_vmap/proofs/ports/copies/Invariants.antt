use Rattle.std.proofs.Common.{◌≡◌, take}
use Rattle.kp_vmap.proofs.ports.copies.Given as goal

-- the ports so far were copied
abbrev pub invariant-loop-port : goal.invariant-loop-port
invariant-loop-port l = l.items.items ≡ take l.port-index l.ports
