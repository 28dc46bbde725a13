use Rattle.std.proofs.Common.{◌∙◌}
use Rattle.kp_rules.proofs.RankedPlaces.{ranked_by_places}
use Rattle.kp_rules.proofs.table.Table.is_ranked.Goals as goal

pub returns : goal.returns
returns c = c.are_ranked.ensures ∙ ranked_by_places c.args.self.now.chains
