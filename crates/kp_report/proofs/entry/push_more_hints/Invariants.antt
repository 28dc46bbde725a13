use Rattle.std.proofs.Common.{◌≡◌, ◌++◌, take, string_bytes}
use Rattle.std.specs.List.{flat_map}
use Rattle.kp_text_defs.specs.Slices.{next_text}
use Rattle.kp_report.proofs.entry.push_more_hints.Given as goal

-- the hints so far are added
abbrev pub invariant-loop-hint : goal.invariant-loop-hint
invariant-loop-hint l = string_bytes l.text ≡ string_bytes l.initial.text ++ flat_map next_text (take l.hint-index l.hints)
