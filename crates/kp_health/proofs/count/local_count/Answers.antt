use Rattle.std.proofs.Common.{length, ap, ◌∙◌}
use Rattle.kp_health.proofs.Counting.{counted}
use Rattle.kp_health.proofs.count.local_count.Goals as goal

pub returns : goal.returns
returns c =
    c.len.ensures.len ∙ ap length c.in_ok-addresses.ensures
    ∙ counted c.args.families.now c.args.per_port.now
