use Rattle.std.proofs.Common.{ap, ◌∙◌}
use Rattle.std.specs.FinMap as finite
use Rattle.kp_base.proofs.Maps.{lookup-get}
use Rattle.kp_types.proofs.ChainOrder.{chain_total, chain_ties}
use Rattle.kp_rules.proofs.chain_map.ChainMap.get.Goals as goal

pub returns : goal.returns
returns c = c.get.ensures.value ∙ lookup-get chain_total chain_ties c.self.inside.rules.entries c.args.at.now ∙ ap (λ m. finite.get m.chains c.args.at.now) c.self.view_is
