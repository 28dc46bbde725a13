use Rattle.kp_part_laws.proofs.Beside as beside
use Rattle.kp_part_laws.proofs.side_by_side.Goals as goal

pub returns : goal.returns
returns c s = beside.side_by_side
