use Rattle.std.proofs.Common.{ap, ◌∙◌}
use Rattle.std.specs.FinMap as finite
use Rattle.kp_base.proofs.KeyOrder.{key_total, key_exact, key_ties}
use Rattle.kp_base.proofs.Maps.{inserted}
use Rattle.kp_store.proofs.loose_keys.LooseKeys.put.Goals as goal

pub returns-clause-ok : goal.returns-clause-ok
returns-clause-ok c =
    inserted key_total key_ties key_exact c.self.inside.entries.entries c.insert.new.self.entries c.args.key tt c.in_ok-insert.ensures.updates.0
    ∙ ap (λ m. finite.insert m c.args.key tt) c.self.view_is
