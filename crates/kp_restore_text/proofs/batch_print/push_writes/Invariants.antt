use Rattle.std.proofs.Common.{◌≡◌, ◌++◌, take, string_bytes}
use Rattle.std.specs.List.{flat_map}
use Rattle.kp_restore_text.specs.PrintedEdits.{written_text}
use Rattle.kp_restore_text.proofs.batch_print.push_writes.Given as goal

-- the lines of the edits so far
abbrev pub invariant-loop-edit : goal.invariant-loop-edit
invariant-loop-edit l = string_bytes l.text ≡ string_bytes l.initial.text ++ flat_map (written_text l.which) (take l.edit-index l.edits)
