use Rattle.std.proofs.Common.{◌≡◌, ◌++◌, take, string_bytes}
use Rattle.std.specs.List.{flat_map}
use Rattle.kp_restore_text.specs.PrintedEdits.{removed_text}
use Rattle.kp_restore_text.proofs.batch_print.push_removes.Given as goal

-- the lines of the edits so far
abbrev pub invariant-loop-edit : goal.invariant-loop-edit
invariant-loop-edit l = string_bytes l.text ≡ string_bytes l.initial.text ++ flat_map (removed_text l.which) (take l.edit-index l.edits)
