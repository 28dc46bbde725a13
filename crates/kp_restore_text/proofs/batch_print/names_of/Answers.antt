use Rattle.std.proofs.Common.{◌∙◌, arith}
use Rattle.kp_restore_text.proofs.EditSections.{edit_before}
use Rattle.kp_restore_text.proofs.batch_print.names_of.Goals as goal

-- the name of the edit before those
pub loop-i-preserved : goal.loop-i-preserved
loop-i-preserved c =
    let edits = c.args.edits.now in
    c.in_ok-add_name.ensures
    ∙ edit_before c.args.which edits c.loop-i.i c.index-edits-i.result c.place.result.now c.loop-i.names.keys (omega arith) (omega arith) c.index-edits-i.is c.place.ensures c.loop-i.invariant
