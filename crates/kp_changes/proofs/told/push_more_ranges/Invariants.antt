use Rattle.std.proofs.Common.{◌≡◌, ◌++◌, take, string_bytes}
use Rattle.std.specs.List.{flat_map}
use Rattle.kp_change_defs.specs.ValueText.{next_range_text}
use Rattle.kp_changes.proofs.told.push_more_ranges.Given as goal

-- the ranges so far are added
abbrev pub invariant-loop-range : goal.invariant-loop-range
invariant-loop-range l =
    string_bytes l.text
    ≡ string_bytes l.initial.text ++ flat_map next_range_text (take l.range-index l.ranges)
