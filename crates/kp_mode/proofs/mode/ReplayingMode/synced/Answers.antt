use Rattle.std.proofs.Common.{append-nil, sym}
use Rattle.kp_mode.proofs.mode.ReplayingMode.synced.Goals as goal

pub returns : goal.returns
returns c = λ state stands. (sym (append-nil _), tt)
