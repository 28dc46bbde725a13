use Rattle.std.proofs.Common.{◌≡◌, [], arith, ap, sym, subst, length, replicate, ◌∙◌}
use Rattle.std.proofs.lemmas.Grind.{common_steps}
use Rattle.std.specs.List.{AllByRecursion}
use Rattle.std.specs.Vec.Iter.{into_iter_items}
use Rattle.kp_hub.specs.Known.{new_worker}
use Rattle.kp_live.specs.Streams.{IsAtStart}
use Rattle.kp_live.proofs.Cutting.{but_last}
use Rattle.kp_live.proofs.Readings.{all_more}
use Rattle.kp_live.proofs.streams.streams_of.Goals as goal

-- one more feeder has a stream
pub loop-feeder-preserved : goal.loop-feeder-preserved
loop-feeder-preserved g c =
    let is = c.in-Some.ensures.steps.0 in
    let grown = c.in_ok-push.ensures.items in
    record {
      feeders = grind (arith, common_steps, is, grown, c.in_ok-stream_of.ensures.feeder, c.loop-feeder.invariant.feeders);
      workers =
          but_last (length (into_iter_items c.next.new.self)) c.pop.new.self.items
          c.in-Some-pop.worker new_worker
          (sym (ap (λ l. replicate (length l) new_worker) is) ∙ sym c.loop-feeder.invariant.workers
          ∙ c.in-Some-pop.ensures.items);
      new =
          subst (AllByRecursion (λ s. IsAtStart c.args.config.now s.standing)) (sym grown)
          (all_more (λ s. IsAtStart c.args.config.now s.standing) c.loop-feeder.streams.items
          c.in_ok-stream_of.field-0 c.loop-feeder.invariant.new c.in_ok-stream_of.ensures.new);
      lines =
          subst (AllByRecursion (λ s. s.lines.items ≡ [])) (sym grown)
          (all_more (λ s. s.lines.items ≡ []) c.loop-feeder.streams.items
          c.in_ok-stream_of.field-0 c.loop-feeder.invariant.lines c.in_ok-stream_of.ensures.lines);
      left =
          let long = ap length is in
          omega (arith, c.in-Some.ensures.steps.1, long, c.loop-feeder.invariant.left);
    }
