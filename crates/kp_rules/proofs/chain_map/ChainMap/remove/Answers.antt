use Rattle.std.proofs.Common.{ap, ◌∙◌}
use Rattle.std.specs.FinMap as finite
use Rattle.kp_base.proofs.Maps.{removed}
use Rattle.kp_types.proofs.ChainOrder.{chain_total, chain_exact, chain_ties}
use Rattle.kp_rules.proofs.chain_map.ChainMap.remove.Goals as goal

pub returns-in-Some-clause-chains : goal.returns-in-Some-clause-chains
returns-in-Some-clause-chains c =
    ap (λ m. m.chains) c.leave_slot.ensures
    ∙ removed chain_total chain_ties chain_exact c.self.inside.rules.entries c.swap_remove_full.new.self.entries c.args.at.now c.swap_remove_full.ensures.updates.0
    ∙ ap (λ m. finite.remove m.chains c.args.at.now) c.self.view_is

pub returns-in_default-clause-chains : goal.returns-in_default-clause-chains
returns-in_default-clause-chains c =
    removed chain_total chain_ties chain_exact c.self.inside.rules.entries c.swap_remove_full.new.self.entries c.args.at.now c.swap_remove_full.ensures.updates.0
    ∙ ap (λ m. finite.remove m.chains c.args.at.now) c.self.view_is
