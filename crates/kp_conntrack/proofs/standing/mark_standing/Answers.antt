use Rattle.std.proofs.Common.{map}
use Rattle.std.specs.List.{flat_map}
use Rattle.kp_conntrack.specs.Standing.{udp_targets_at}
use Rattle.kp_conntrack.proofs.Targets.{places_more}
use Rattle.kp_conntrack.proofs.standing.mark_standing.Goals as goal

pub loop-at-init : goal.loop-at-init
loop-at-init c kept indexed row found = c.clear.ensures row

pub loop-at-preserved : goal.loop-at-preserved
loop-at-preserved c kept indexed =
    places_more c.args.rows.now kept c.args.table.now.chains c.loop-at.yielded c.in-Some.at c.mark_targets_at.new.marks
    (c.mark_targets_at.ensures kept (flat_map (udp_targets_at c.args.table.now.chains) (map (λ p. p.now) c.loop-at.yielded)) indexed
    (c.loop-at.invariant kept indexed))
