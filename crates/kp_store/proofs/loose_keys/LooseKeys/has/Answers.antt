use Rattle.std.proofs.Common.{is_some, ap, ◌∙◌}
use Rattle.std.specs.FinMap as finite
use Rattle.kp_base.proofs.KeyOrder.{key_total, key_ties}
use Rattle.kp_base.proofs.Maps.{lookup-get}
use Rattle.kp_store.proofs.loose_keys.LooseKeys.has.Goals as goal

pub returns : goal.returns
returns c =
    c.contains_key.ensures
    ∙ ap is_some (lookup-get key_total key_ties c.self.inside.entries.entries c.args.key.now)
    ∙ ap (λ m. finite.contains_key m c.args.key.now) c.self.view_is
