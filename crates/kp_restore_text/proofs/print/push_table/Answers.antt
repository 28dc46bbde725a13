use Rattle.std.proofs.lemmas.Result.{on_ok_weaker}
use Rattle.kp_restore_text.proofs.Sections.{table_added}
use Rattle.kp_restore_text.proofs.print.push_table.Goals as goal

pub returns : goal.returns
returns c = on_ok_weaker c.push_section-2.result (table_added c.args.family c.args.table.now.chains _ _ c.nat_of.ensures.value c.filter_of.ensures.value _ _ _ c.in_ok-push_section.ensures) c.push_section-2.ensures
