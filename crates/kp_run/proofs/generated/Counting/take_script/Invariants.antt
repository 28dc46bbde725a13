use Rattle.std.proofs.Common.{◌≡◌, ◌*◌, ◌≤◌, take}
use Rattle.std.specs.List.{fold, flat_map}
use Rattle.kp_gen_defs.specs.Script.{part_lines}
use Rattle.kp_replay.specs.Steps.{IsReady}
use Rattle.kp_run.specs.Sums.{after_counted, count_start, counted_in}
use Rattle.kp_run.proofs.generated.Counting.take_script.Given as goal

-- the parts so far are taken
abbrev pub invariant-loop-part : goal.invariant-loop-part
invariant-loop-part l = record {
  counted : counted_in l.self ≡ fold after_counted count_start (flat_map (part_lines l.plan) (take l.part-index l.part-items));
  ready : IsReady (counted_in l.self).at.standing;
  few : l.self.number ≤ 60000 * l.part-index;
}
