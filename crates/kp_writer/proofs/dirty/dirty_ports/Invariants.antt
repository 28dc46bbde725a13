use Rattle.std.proofs.Common.{◌≡◌, map, take}
use Rattle.std.specs.FinMap.{get}
use Rattle.kp_writer.specs.Written.{written_in}
use Rattle.kp_writer.proofs.dirty.dirty_ports.Given as goal

-- the ports so far
abbrev pub invariant-loop-key : goal.invariant-loop-key
invariant-loop-key l =
    l.dirty.items ≡ map (λ k. record {
      key = k.now;
      before = get (written_in l.ports) k.now;
    }) (take l.key-index l.keys)
