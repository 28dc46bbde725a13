use Rattle.kp_restore.proofs.LineTexts.{no_line}
use Rattle.kp_restore.proofs.line.read_line.Goals as goal

pub returns-clause-none : goal.returns-clause-none
returns-clause-none c = λ n.
    no_line c.args.family c.args.bytes.now (c.read_rule.ensures.none c.in_default.is) (c.chain_between.ensures.none c.in_default-chain_between.is) (c.chain_between-2.ensures.none c.in_default-chain_between-2.is)
    (c.chain_between-3.ensures.none c.in_default-chain_between-3.is) (c.read_fixed.ensures.none n)
