use Rattle.std.proofs.Common.{◌≡◌, map, take}
use Rattle.kp_plane.proofs.refresh.each_of.Given as goal

abbrev pub invariant-loop-key : goal.invariant-loop-key
invariant-loop-key l = map (λ k. k.now) l.each.items ≡ take l.key-index l.keys
