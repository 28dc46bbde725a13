use Rattle.kp_rules.proofs.ChangeLists.{added_changes, on_ok}
use Rattle.kp_rules.proofs.changes.add_changes.Goals as goal

pub returns : goal.returns
returns c = on_ok c.add_removes.result _ _ (added_changes c.args.before.now.chains c.args.after.now.chains c.args.table c.args.edits.now.items c.add_writes.new.edits.items c.add_removes.new.edits.items c.in_ok-add_writes.ensures) c.add_removes.ensures
