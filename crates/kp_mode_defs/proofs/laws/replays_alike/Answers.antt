use Rattle.kp_mode_defs.proofs.Alike as alike
use Rattle.kp_mode_defs.proofs.laws.replays_alike.Goals as goal

pub returns : goal.returns
returns c = alike.replays_alike
