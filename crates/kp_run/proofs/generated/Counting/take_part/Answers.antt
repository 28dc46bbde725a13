use Rattle.std.proofs.Common.{◌≡◌, ◌∙◌, suc, ap, sym, arith}
use Rattle.kp_gen_defs.specs.Script.{line_in}
use Rattle.kp_run.specs.Sums.{after_counted, counted_in}
use Rattle.kp_run.proofs.SumLemmas.{line_more}
use Rattle.kp_run.proofs.generated.Counting.take_part.Goals as goal

pub loop-place-preserved : goal.loop-place-preserved
loop-place-preserved c =
    let lines = line_in c.args.plan c.args.part in
    let start = counted_in c.args.self.now in
    let place = c.loop-place.place in
    let next : c.take.new.self.number ≡ suc c.loop-place.self.number = ap (λ k. k.number) c.in_ok-take.ensures.counted in
    record {
      counted = c.in_ok-take.ensures.counted ∙ ap (λ k. after_counted k (lines place)) c.loop-place.invariant.counted ∙ sym (line_more after_counted start lines place);
      ready = c.in_ok-take.ensures.ready;
      few = omega (arith, next, c.loop-place.invariant.few);
    }
