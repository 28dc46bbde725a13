-- The keys of those so far that are left over were added.
use Rattle.std.proofs.Common.{◌≡◌, ◌++◌, map, take, filter}
use Rattle.kp_object_defs.specs.SlicesNow.{is_leftover}
use Rattle.kp_controller.proofs.leftovers.add_left_over.Given as goal

abbrev pub invariant-loop-slice : goal.invariant-loop-slice
invariant-loop-slice l =
    l.keys.items
    ≡ l.fn.keys.items
    ++ map (λ s. s.key)
    (filter (is_leftover l.objects) (map (λ s. s.now) (take l.slice-index l.slices)))
