use Rattle.std.proofs.Common.{sym, ap, ◌∙◌, arith}
use Rattle.std.specs.FinMap as finite
use Rattle.kp_tracker.specs.Tracked as spec
use Rattle.kp_tracker.proofs.Newest.{published_behind}
use Rattle.kp_tracker.proofs.tracker.publish_all.Goals as goal

pub loop-key-preserved : goal.loop-key-preserved
loop-key-preserved g c =
    let order = g.K.Key.order in
    let was = finite.from_entries {R = order} c.loop-key.published.entries in
    let left = c.pop_last.new.self.entries in
    record {
      values =
          ap (λ m. spec.updated order m left) c.publish.ensures.value
          ∙ sym (published_behind order was left (c.in-Some.key, c.in-Some.value))
          ∙ ap (spec.updated order was) (sym c.in-Some.ensures.removal)
          ∙ c.loop-key.invariant.values;
      room = omega (arith, c.in-Some.ensures.len, c.loop-key.invariant.room, c.publish.ensures.room);
    }
