use Rattle.std.proofs.Common.{arith}
use Rattle.kp_base.proofs.Groups.{printed_is_read}
use Rattle.kp_base.proofs.six.printed_groups_are_read.Goals as goal

pub returns : goal.returns
returns c = printed_is_read c.args.number (omega arith)
