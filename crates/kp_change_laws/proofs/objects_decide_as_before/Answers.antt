use Rattle.kp_change_laws.proofs.OfObjects.{objects_decide_by}
use Rattle.kp_change_laws.proofs.objects_decide_as_before.Goals as goal

pub returns : goal.returns
returns c = objects_decide_by
