use Rattle.rand_chacha.specs.Block.{diagonal_round}
use Rattle.kp_draws.proofs.block.diagonal_round.Goals as goal

pub returns : goal.returns
unfolding diagonal_round
returns c =
    rw (
      ← c.quarter_round-a0.ensures,
      ← c.quarter_round-a1.ensures,
      ← c.quarter_round-a2.ensures,
      ← c.quarter_round-a3.ensures,
    )
