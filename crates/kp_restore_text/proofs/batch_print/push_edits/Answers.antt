use Rattle.std.proofs.Common.{◌++◌, string_bytes, sym, ap, ◌∙◌}
use Rattle.std.proofs.lemmas.Result.{on_ok_weaker}
use Rattle.kp_restore_text.specs.Printed.{ended}
use Rattle.kp_restore_text.proofs.EditSections.{no_edits, edits_added}
use Rattle.kp_restore_text.proofs.batch_print.push_edits.Goals as goal

pub returns-then-not-is_edited : goal.returns-then-not-is_edited
returns-then-not-is_edited c = no_edits c.args.which c.args.edits.now (string_bytes c.args.text.now) (sym c.is_edited.ensures ∙ c.if-not-is_edited.true)

pub returns : goal.returns
returns c =
    on_ok_weaker c.push_line-2.result
    (edits_added c.args.which c.args.edits.now c.in_ok-names.names.keys _ _ _ _ _ _ (sym c.is_edited.ensures ∙ c.if-not-is_edited.false) c.in_ok-names.ensures
    (c.in_ok-push_line.ensures ∙ ap (λ l. string_bytes c.args.text.now ++ ended l) c.table_line.ensures)
    c.in_ok-push_names.ensures c.in_ok-push_writes.ensures c.in_ok-push_removes.ensures)
    c.push_line-2.ensures
