-- The candidates of the wanted endpoints and of the slices so far were found.
use Rattle.std.proofs.Common.{◌≡◌, map, take}
use Rattle.kp_object_defs.specs.Entries.{candidates_from}
use Rattle.kp_category.proofs.entries.all_candidates.Given as goal

abbrev pub invariant-loop-slice : goal.invariant-loop-slice
invariant-loop-slice l =
    l.found.items ≡ candidates_from l.family l.node l.port l.wanted (map (λ s. s.now) (take l.slice-index l.slices))
