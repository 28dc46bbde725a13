use Rattle.std.proofs.Common.{lit<}
use Rattle.std.proofs.Math.Nat.{one-le-pow}
use Rattle.kp_draws.proofs.statistic.digit.Goals as goal

-- a power of ten is positive
pub nonzero_div-digit : goal.nonzero_div-digit
nonzero_div-digit c = rw c.pow.ensures (one-le-pow c.args.place 10 (lit< tt))
