use Rattle.std.proofs.Common.{◌≡◌, drop}
use Rattle.kp_restore_text.specs.PrintedEdits.{edited_names}
use Rattle.kp_restore_text.proofs.batch_print.names_of.Given as goal

-- the names of the edits from here on
abbrev pub invariant-loop-i : goal.invariant-loop-i
invariant-loop-i l = l.names.keys ≡ edited_names l.which (drop l.i l.edits)
