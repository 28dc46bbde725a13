use Rattle.kp_rules.proofs.Placing.{no_places}
use Rattle.kp_rules.proofs.table.Table.bare.Goals as goal

pub invariant_of-result : goal.invariant_of-result
invariant_of-result c = no_places c.new-2.result c.new.result.chains c.new-2.ensures.ordered c.new-2.ensures.empty c.new.ensures
