-- The doors at the addresses so far that the packet fits were added.
use Rattle.std.proofs.Common.{◌≡◌, ◌++◌, take, map, filter}
use Rattle.kp_door_defs.specs.Doors.{door_at, fits}
use Rattle.kp_decide.proofs.fitting.add_fitting_at.Given as goal

abbrev pub invariant-loop-address : goal.invariant-loop-address
invariant-loop-address l =
    l.doors.items
    ≡ l.initial.doors.items ++ filter (fits l.config.addresses l.packet)
    (map (door_at l.kind l.info) (take l.address-index l.addresses))
