use Rattle.std.proofs.Common.{◌||◌}
use Rattle.kp_plane.proofs.collected.Collected.new.Goals as goal

pub returns : goal.returns
returns c = λ k i. c.new-2.ensures k i || c.new.ensures k i
