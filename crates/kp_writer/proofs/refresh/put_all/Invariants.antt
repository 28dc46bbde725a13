use Rattle.std.proofs.Common.{◌≡◌, ◌+◌, ◌≤◌, drop, length, take, vec_len}
use Rattle.kp_writer.specs.Old.{unwritten}
use Rattle.kp_writer.specs.Refresh.{with_infos}
use Rattle.kp_writer.specs.Shared.{shared_rule_count}
use Rattle.kp_writer.specs.Written.{setting_in, with_newest}
use Rattle.kp_writer.proofs.refresh.put_all.Given as goal

-- those that were taken off the end are put
abbrev pub invariant-loop-info : goal.invariant-loop-info
invariant-loop-info g l = record {
  value : l.writer ≡ with_newest l.fn.writer
      (with_infos l.service l.fn.writer.newest (drop (length l.infos.items) l.fn.infos.items));
  more : l.fn.steps ≤ l.steps;
  steps : l.steps
      + shared_rule_count (setting_in l.fn.writer) (unwritten l.fn.writer.written l.infos.items)
      ≤ l.fn.steps
      + shared_rule_count (setting_in l.fn.writer) (unwritten l.fn.writer.written l.fn.infos.items);
  left : l.infos.items ≡ take (length l.infos.items) l.fn.infos.items;
}

abbrev pub decreases-loop-info : goal.decreases-loop-info
decreases-loop-info g l = vec_len l.infos
