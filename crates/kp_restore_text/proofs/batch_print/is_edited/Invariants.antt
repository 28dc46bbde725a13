use Rattle.std.proofs.Common.{◌≡◌, false, take}
use Rattle.std.specs.List.{list_any}
use Rattle.kp_restore_defs.specs.BatchText.{place_of}
use Rattle.kp_restore_text.specs.PrintedEdits.{is_in}
use Rattle.kp_restore_text.proofs.batch_print.is_edited.Given as goal

-- no edit so far is of the table
abbrev pub invariant-loop-edit : goal.invariant-loop-edit
invariant-loop-edit l = list_any (λ e. is_in l.which (place_of e)) (take l.edit-index l.edits) ≡ false
