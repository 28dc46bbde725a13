use Rattle.std.proofs.Common.{◌++◌, ◌∙◌, ap}
use Rattle.std.specs.Option.{option_to_list}
use Rattle.kp_rules.specs.Changes.{remove_at}
use Rattle.kp_rules.proofs.ChangeLists.{added_more}
use Rattle.kp_rules.proofs.changes.add_removes.Goals as goal

-- one place more
pub loop-at-preserved : goal.loop-at-preserved
loop-at-preserved c =
    added_more (remove_at c.args.after.now.chains c.args.table) c.args.edits.now.items c.loop-at.edits.items c.add.new.edits.items c.loop-at.yielded c.in-Some.at c.loop-at.invariant
    (c.in_ok-add.ensures ∙ ap (λ o. c.loop-at.edits.items ++ option_to_list o) c.remove_at.ensures)
