use Rattle.kp_pack_laws.proofs.packing_places_each.Goals as goal
use Rattle.kp_pack_laws.proofs.Theorem as theorem

pub returns : goal.returns
returns c = theorem.packing_places_each
