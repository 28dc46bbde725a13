use Rattle.std.proofs.Common.{◌∙◌}
use Rattle.kp_category.proofs.Counting.{counted_more}
use Rattle.kp_category.proofs.entries.counted_once.Goals as goal

pub loop-candidate-preserved : goal.loop-candidate-preserved
loop-candidate-preserved c =
    c.in_ok-count.ensures ∙ counted_more c.loop-candidate.counted.entries c.loop-candidate.yielded c.in-Some.candidate c.loop-candidate.invariant
