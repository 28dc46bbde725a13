use Rattle.std.proofs.Common.{ap, ◌∙◌, ◌-◌, length}
use Rattle.kp_paths.proofs.Refused.{left_of}
use Rattle.kp_paths.proofs.source_counts.refused_among.Goals as goal

pub returns : goal.returns
returns c refuses is =
    c.saturating_sub.ensures
    ∙ ap (λ l. length c.args.endpoints.now - length l) is ∙ left_of refuses c.args.endpoints.now
