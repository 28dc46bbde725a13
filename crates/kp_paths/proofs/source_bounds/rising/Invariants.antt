use Rattle.std.proofs.Common.{◌≡◌, drop}
use Rattle.kp_path_defs.specs.Sources as spec
use Rattle.kp_paths.proofs.source_bounds.rising.Given as goal

-- the numbers from here on stand in order
abbrev pub invariant-loop-i : goal.invariant-loop-i
invariant-loop-i l = l.rising.keys ≡ spec.rising (drop l.i l.numbers)
