use Rattle.std.proofs.Common.{sym, arith}
use Rattle.kp_rule_text.proofs.Digits.{too_much}
use Rattle.kp_rule_text.proofs.word.digits_up_to.Goals as goal

pub returns-then-number-most : goal.returns-then-number-most
returns-then-number-most c = sym (too_much c.args.most c.loop-byte.byte-index c.args.text.now (omega arith) (omega arith))
