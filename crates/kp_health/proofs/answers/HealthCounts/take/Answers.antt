use Rattle.std.proofs.Common.{ap, ◌∙◌}
use Rattle.std.specs.FinMap as finite
use Rattle.kp_base.proofs.KeyOrder.{key_total, key_exact, key_tree_ties}
use Rattle.kp_base.proofs.Maps.{removed}
use Rattle.kp_health.proofs.answers.HealthCounts.take.Goals as goal

pub returns : goal.returns
returns c =
    removed key_total key_tree_ties key_exact c.self.inside.answers.entries
    c.remove.new.self.entries c.args.key.now c.remove.ensures.updates.0
    ∙ ap (λ m. finite.remove m c.args.key.now) c.self.view_is
