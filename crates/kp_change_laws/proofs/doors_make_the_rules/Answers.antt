use Rattle.kp_change_laws.proofs.NamedChains.{doors_make_the_rules_by}
use Rattle.kp_change_laws.proofs.doors_make_the_rules.Goals as goal

pub returns : goal.returns
returns c = doors_make_the_rules_by
