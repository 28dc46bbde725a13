use Rattle.std.proofs.Common.{◌≡◌, ◌++◌, filter, flat_map, map, string_bytes, take}
use Rattle.kp_path_defs.specs.PathText.{within_text}
use Rattle.kp_path_defs.specs.Sources.{is_within}
use Rattle.kp_paths.proofs.source_text.push_within.Given as goal

-- those so far are added
abbrev pub invariant-loop-one : goal.invariant-loop-one
invariant-loop-one l =
    string_bytes l.text
    ≡ string_bytes l.initial.text ++ flat_map within_text
    (map (λ r. r.port) (filter (is_within l.address) (take l.one-index l.restricted)))
