use Rattle.std.proofs.Common.{ap, ◌∙◌}
use Rattle.std.specs.FinMap as finite
use Rattle.kp_base.proofs.KeyOrder.{key_total, key_exact, key_ties}
use Rattle.kp_base.proofs.Maps.{removed}
use Rattle.kp_store.proofs.loose_keys.LooseKeys.take.Goals as goal

pub returns : goal.returns
returns c =
    removed key_total key_ties key_exact c.self.inside.entries.entries c.swap_remove.new.self.entries c.args.key.now c.swap_remove.ensures.updates.0
    ∙ ap (λ m. finite.remove m c.args.key.now) c.self.view_is
