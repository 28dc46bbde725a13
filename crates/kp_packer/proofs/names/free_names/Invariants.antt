-- The names are the first free ones among those so far.
use Rattle.std.proofs.Common.{◌≡◌, take, bytes_eq, filter, not}
use Rattle.std.specs.List.{list_any}
use Rattle.kp_object_defs.specs.Packing.{slice_names_from}
use Rattle.kp_packer.proofs.names.free_names.Given as goal

abbrev pub invariant-loop-number : goal.invariant-loop-number
invariant-loop-number l =
    l.names.items
    ≡ take l.count (filter (λ name. not (list_any (bytes_eq name) l.taken)) (slice_names_from l.service l.number 1))
