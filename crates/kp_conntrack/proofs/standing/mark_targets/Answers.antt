use Rattle.std.proofs.Common.{◌++◌, List, take, subst, sym, arith}
use Rattle.std.specs.List.{filter_map}
use Rattle.kp_lemmas.proofs.ListFacts.{filter_map_step}
use Rattle.kp_conntrack.specs.Marked.{AreMarkedBy}
use Rattle.kp_conntrack.specs.Standing.{udp_target}
use Rattle.kp_conntrack.proofs.standing.mark_targets.Goals as goal

pub loop-rule-preserved : goal.loop-rule-preserved
loop-rule-preserved c kept others indexed before =
    subst (λ es. AreMarkedBy c.args.rows.now kept es c.mark_target.new.marks)
    (filter_map_step udp_target others c.args.rules.now c.loop-rule.rule-index c.rule-item.result (omega arith) c.rule-item.is)
    (c.mark_target.ensures kept (others ++ filter_map udp_target (take c.loop-rule.rule-index c.args.rules.now)) indexed
    (c.loop-rule.invariant kept others indexed before))
