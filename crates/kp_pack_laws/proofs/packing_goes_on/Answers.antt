use Rattle.kp_pack_laws.proofs.packing_goes_on.Goals as goal
use Rattle.kp_pack_laws.proofs.Following as laws

pub returns : goal.returns
returns c = laws.packing_goes_on
