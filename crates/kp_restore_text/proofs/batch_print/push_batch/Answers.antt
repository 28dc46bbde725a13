use Rattle.std.proofs.lemmas.Result.{on_ok_weaker}
use Rattle.kp_restore_text.proofs.EditSections.{batch_added}
use Rattle.kp_restore_text.proofs.batch_print.push_batch.Goals as goal

pub returns : goal.returns
returns c = on_ok_weaker c.push_edits-2.result (batch_added c.args.family c.args.edits.now _ _ c.nat_of.ensures.value c.filter_of.ensures.value _ _ _ c.in_ok-push_edits.ensures) c.push_edits-2.ensures
