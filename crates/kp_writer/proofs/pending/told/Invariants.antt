use Rattle.std.proofs.Common.{◌≡◌, take}
use Rattle.kp_writer.proofs.pending.told.Given as goal

-- the ports so far
abbrev pub invariant-loop-port : goal.invariant-loop-port
invariant-loop-port l = l.told.items ≡ take l.port-index l.ports
