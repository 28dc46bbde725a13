use Rattle.std.proofs.Common.{◌+◌, ◌-◌, ap, ◌∙◌, arith}
use Rattle.kp_draws.proofs.Selection.{matched_first, passed_first}
use Rattle.kp_draws.proofs.source.DrawSource.pick.Goals as goal

-- this test is the first of those that are left, and it matches
pub returns-then-draw-threshold-clause-chosen : goal.returns-then-draw-threshold-clause-chosen
returns-then-draw-threshold-clause-chosen g c draws are =
    omega (
      arith,
      c.loop-i.invariant draws are,
      matched_first draws c.loop-i.i (c.args.n - c.loop-i.i) c.draw.result c.threshold.result
          (c.draw.ensures.drawn draws are ∙ ap draws c.draw_place.ensures)
          (rw c.probability.ensures at c.threshold.ensures) c.if-draw-threshold.true,
    )

-- it does not match, and the choice goes on
pub loop-i-preserved : goal.loop-i-preserved
loop-i-preserved g c draws are =
    omega (
      arith,
      c.loop-i.invariant draws are,
      passed_first draws c.loop-i.i (c.args.n - c.loop-i.i) c.draw.result c.threshold.result (c.loop-i.i + 1) (c.args.n - (c.loop-i.i + 1))
          (omega arith) (omega arith) (omega arith)
          (c.draw.ensures.drawn draws are ∙ ap draws c.draw_place.ensures)
          (rw c.probability.ensures at c.threshold.ensures) c.if-draw-threshold.false,
    )
