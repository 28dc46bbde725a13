-- A step was taken for each port so far.
use Rattle.std.proofs.Common.{◌≡◌, ◌+◌}
use Rattle.kp_known_ports.proofs.infos.count_ports.Given as goal

abbrev pub invariant-loop-port : goal.invariant-loop-port
invariant-loop-port g l = l.asked ≡ l.fn.asked + l.port-index
