use Rattle.std.proofs.Common.{◌≡◌, take}
use Rattle.kp_path_defs.specs.Sources as spec
use Rattle.kp_paths.proofs.source_kinds.restricted_of.Given as goal

-- those of the doors so far
abbrev pub invariant-loop-door : goal.invariant-loop-door
invariant-loop-door l = l.restricted.items ≡ spec.restricted (take l.door-index l.doors)
