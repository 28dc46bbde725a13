-- The fullest of the slices so far.
use Rattle.std.proofs.Common.{◌≡◌, map, take, cond, Some, None}
use Rattle.std.specs.List.{list_any}
use Rattle.kp_object_defs.specs.Packing as spec
use Rattle.kp_packer.specs.Views.{filling_of}
use Rattle.kp_packer.proofs.place.fullest.Given as goal

abbrev pub invariant-loop-fill : goal.invariant-loop-fill
invariant-loop-fill l =
    l.fullest
    ≡ cond (list_any (spec.has_room l.most l.more) (map filling_of (take l.fill-index l.fills)))
    (Some (spec.fullest l.most l.more (map filling_of (take l.fill-index l.fills)))) None
