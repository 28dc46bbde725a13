-- The ports of the Services that were taken off the end are known.
use Rattle.std.proofs.Common.{◌≡◌, ◌≤◌, ◌+◌, false, map, vec_len}
use Rattle.std.specs.FinMap as finite
use Rattle.kp_base.specs.declared.key.PortKey.{PortKey}
use Rattle.kp_writer.specs.Written.{setting_in, with_newest}
use Rattle.kp_plane.specs.Known.{KnowsOthers, asked_count, is_listed, is_port_of_one, made_count}
use Rattle.kp_plane.proofs.refresh.refresh_keys.Given as goal

abbrev pub invariant-loop-service : goal.invariant-loop-service
invariant-loop-service g l = record {
  value : l.writer ≡ with_newest l.fn.writer l.writer.newest;
  known : KnowsOthers (setting_in l.writer) l.objects
      (is_listed (map (λ k. k.now) l.services.items)) l.writer.newest;
  among : (key : PortKey) → finite.contains_key l.keys key.object ≡ false
      → is_port_of_one (map (λ k. k.now) l.services.items) key ≡ false;
  more : l.fn.steps ≤ l.steps;
  steps : l.steps
      + made_count (setting_in l.fn.writer) l.fn.writer.written l.objects
      (map (λ k. k.now) l.services.items)
      ≤ l.fn.steps
      + made_count (setting_in l.fn.writer) l.fn.writer.written l.objects (finite.keys l.keys);
  asked : l.asked + asked_count l.objects (map (λ k. k.now) l.services.items)
      ≤ l.fn.asked + asked_count l.objects (finite.keys l.keys);
}

abbrev pub decreases-loop-service : goal.decreases-loop-service
decreases-loop-service g l = vec_len l.services
