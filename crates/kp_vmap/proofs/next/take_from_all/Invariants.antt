use Rattle.std.proofs.Common.{◌≡◌, take}
use Rattle.kp_vmap_defs.specs.declared.door.Destination.{Destination}
use Rattle.kp_vmap.specs.Places.{is_one_at, taken_at, staged_at}
use Rattle.kp_vmap.proofs.next.take_from_all.Given as goal

-- so it is at the destinations of the doors so far
abbrev pub invariant-loop-door : goal.invariant-loop-door
invariant-loop-door l =
    (d : Destination)
    → staged_at l.kept.entries l.staged.entries d
    ≡ taken_at (is_one_at (take l.door-index l.doors) d) l.key
    (staged_at l.kept.entries l.fn.staged.entries d)
