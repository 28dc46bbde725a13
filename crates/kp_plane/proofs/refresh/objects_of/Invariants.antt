use Rattle.std.proofs.Common.{◌≡◌, map, take}
use Rattle.kp_plane.proofs.refresh.objects_of.Given as goal

abbrev pub invariant-loop-port : goal.invariant-loop-port
invariant-loop-port l =
    map (λ k. k.now) l.keys.items ≡ map (λ p. p.now.object) (take l.port-index l.ports)
