use Rattle.kp_pack_laws.proofs.packed_stay.Goals as goal
use Rattle.kp_pack_laws.proofs.Again as laws

pub returns : goal.returns
returns c = laws.packed_stay
