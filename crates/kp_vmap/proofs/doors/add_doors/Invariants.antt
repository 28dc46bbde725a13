use Rattle.std.proofs.Common.{◌≡◌, ◌+◌, ◌++◌, map, take}
use Rattle.kp_door_defs.specs.Doors.{door_at}
use Rattle.kp_vmap_defs.specs.VerdictMap.{map_door}
use Rattle.kp_vmap.proofs.doors.add_doors.Given as goal

-- the doors at the addresses so far were added, each after a step
abbrev pub invariant-loop-address : goal.invariant-loop-address
invariant-loop-address g l = record {
  doors :
      l.doors.items
      ≡ l.fn.doors.items ++ map map_door
      (map (door_at l.kind l.info) (take l.address-index l.addresses));
  steps : l.steps ≡ l.fn.steps + l.address-index;
}
