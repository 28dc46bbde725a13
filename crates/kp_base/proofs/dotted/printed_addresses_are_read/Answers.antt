use Rattle.std.proofs.Common.{arith}
use Rattle.kp_base.proofs.Printed.{dotted_is_read}
use Rattle.kp_base.proofs.dotted.printed_addresses_are_read.Goals as goal

pub returns : goal.returns
returns c = dotted_is_read c.args.a c.args.b c.args.c c.args.d (omega arith) (omega arith) (omega arith) (omega arith)
