use Rattle.kp_part_laws.proofs.Walks as walks
use Rattle.kp_part_laws.proofs.walks_unseen.Goals as goal

pub returns : goal.returns
returns c = walks.walks_unseen
