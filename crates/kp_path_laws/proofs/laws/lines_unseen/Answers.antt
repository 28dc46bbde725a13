use Rattle.kp_path_laws.proofs.Unseen as unseen
use Rattle.kp_path_laws.proofs.laws.lines_unseen.Goals as goal

pub returns : goal.returns
returns c = unseen.lines_unseen
