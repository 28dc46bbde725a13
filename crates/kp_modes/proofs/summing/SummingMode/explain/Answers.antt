use Rattle.std.proofs.Common.{append-nil, sym}
use Rattle.kp_modes.proofs.summing.SummingMode.explain.Goals as goal

pub returns-clause-explains : goal.returns-clause-explains
returns-clause-explains c = λ state stands. (sym (append-nil _), stands)
