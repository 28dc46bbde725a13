use Rattle.std.proofs.Common.{rules}
use Rattle.kp_live.proofs.Printing.{made_prints}
use Rattle.kp_live.proofs.parts.print_verdict.Goals as goal

-- the text that was made was written
pub returns : goal.returns
returns g c =
    made_prints c.push_answer-made.result c.write_made.result c.as_bytes.result.now _ _ _
    (search rules) c.write_made.ensures.made c.write_made.ensures.unmade
