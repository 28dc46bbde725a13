use Rattle.kp_touch_laws.proofs.Few.{all_zones_stay, own_zone_stays, touched_are_affected}
use Rattle.kp_touch_laws.proofs.Few.{zones_count}
use Rattle.kp_touch_laws.proofs.few_touched.Goals as goal

pub returns-clause-affected : goal.returns-clause-affected
returns-clause-affected c = touched_are_affected

pub returns-clause-count : goal.returns-clause-count
returns-clause-count c = zones_count

pub returns-clause-stay : goal.returns-clause-stay
returns-clause-stay c = all_zones_stay

pub returns-clause-own : goal.returns-clause-own
returns-clause-own c = own_zone_stays
