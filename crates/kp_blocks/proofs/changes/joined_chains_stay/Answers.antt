use Rattle.kp_blocks.proofs.ChangedBlocks.{joined_chains_stay}
use Rattle.kp_blocks.proofs.changes.joined_chains_stay.Goals as goal

pub returns : goal.returns
returns c = joined_chains_stay
