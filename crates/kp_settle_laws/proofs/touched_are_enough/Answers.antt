use Rattle.kp_settle_laws.proofs.Enough as laws
use Rattle.kp_settle_laws.proofs.touched_are_enough.Goals as goal

pub returns-clause-touched : goal.returns-clause-touched
returns-clause-touched c = laws.touched_are_enough c.packing_settles.ensures.stay

pub returns-clause-left : goal.returns-clause-left
returns-clause-left c = laws.none_left
