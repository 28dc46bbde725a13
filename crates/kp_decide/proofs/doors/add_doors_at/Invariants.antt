-- The doors at the addresses so far were added.
use Rattle.std.proofs.Common.{◌≡◌, ◌++◌, take, map}
use Rattle.kp_door_defs.specs.Doors.{door_at}
use Rattle.kp_decide.proofs.doors.add_doors_at.Given as goal

abbrev pub invariant-loop-address : goal.invariant-loop-address
invariant-loop-address l =
    l.doors.items
    ≡ l.initial.doors.items ++ map (door_at l.kind l.info) (take l.address-index l.addresses)
