use Rattle.kp_pack_laws.proofs.packing_again_changes_nothing.Goals as goal
use Rattle.kp_pack_laws.proofs.Again as laws

pub returns : goal.returns
returns c = laws.packing_again
