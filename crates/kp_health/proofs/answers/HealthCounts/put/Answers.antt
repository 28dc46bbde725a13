use Rattle.std.proofs.Common.{ap, ◌∙◌}
use Rattle.std.specs.FinMap as finite
use Rattle.kp_base.proofs.KeyOrder.{key_total, key_exact, key_tree_ties}
use Rattle.kp_base.proofs.Maps.{inserted}
use Rattle.kp_health.proofs.answers.HealthCounts.put.Goals as goal

pub returns-clause-ok : goal.returns-clause-ok
returns-clause-ok c =
    inserted key_total key_tree_ties key_exact c.self.inside.answers.entries
    c.insert.new.self.entries c.args.key c.args.health c.in_ok-insert.ensures.updates.0
    ∙ ap (λ m. finite.insert m c.args.key c.args.health) c.self.view_is
