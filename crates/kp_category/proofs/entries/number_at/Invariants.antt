-- What the ports that are left give is what all of them give.
use Rattle.std.proofs.Common.{◌≡◌, drop, slice_get}
use Rattle.std.specs.List.{filter_map}
use Rattle.kp_object_defs.specs.Entries.{number_if}
use Rattle.kp_category.proofs.entries.number_at.Given as goal

abbrev pub invariant-loop-port : goal.invariant-loop-port
invariant-loop-port l =
    slice_get (filter_map (number_if l.name l.proto) (drop l.port-index l.ports)) 0
    ≡ slice_get (filter_map (number_if l.name l.proto) l.ports) 0
