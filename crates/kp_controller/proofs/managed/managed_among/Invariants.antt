-- Those so far that are managed for the Service were copied.
use Rattle.std.proofs.Common.{◌≡◌, map, take, filter}
use Rattle.kp_object_defs.specs.PackingLaws.{is_managed_for}
use Rattle.kp_controller.proofs.managed.managed_among.Given as goal

abbrev pub invariant-loop-slice : goal.invariant-loop-slice
invariant-loop-slice l =
    l.managed.items
    ≡ filter (is_managed_for l.family l.service) (map (λ s. s.now) (take l.slice-index l.slices))
