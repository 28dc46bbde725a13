use Rattle.std.proofs.Common.{◌≡◌, ◌++◌, take, string_bytes}
use Rattle.std.specs.List.{flat_map}
use Rattle.kp_text_defs.specs.Slices.{slice_text}
use Rattle.kp_report.proofs.slice.push_all_slices.Given as goal

-- the slices so far are added
abbrev pub invariant-loop-slice : goal.invariant-loop-slice
invariant-loop-slice l = string_bytes l.text ≡ string_bytes l.initial.text ++ flat_map slice_text (take l.slice-index l.slices)
