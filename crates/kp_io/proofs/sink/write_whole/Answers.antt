use Rattle.std.proofs.Common.{arith, ◌∙◌}
use Rattle.kp_io.proofs.Told.{Grows-more}
use Rattle.kp_io.proofs.sink.write_whole.Goals as goal

pub loop-done-preserved : goal.loop-done-preserved
loop-done-preserved g c = record {
  within = omega (arith, c.in_ok-done.ensures.bytes.bound, c.split_at.ensures.back_len);
  grown = Grows-more _ _ _ _ _ _ _ c.split_at.ensures.back c.loop-done.invariant.grown c.in_ok-done.ensures.bytes.taken;
  same = c.in_ok-done.ensures.cause.kept ∙ c.loop-done.invariant.same;
}
