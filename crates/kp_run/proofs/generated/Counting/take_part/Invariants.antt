use Rattle.std.proofs.Common.{◌≡◌, ◌+◌, map}
use Rattle.std.specs.List.{fold, range_with_len}
use Rattle.kp_gen_defs.specs.Script.{line_in}
use Rattle.kp_replay.specs.Steps.{IsReady}
use Rattle.kp_run.specs.Sums.{after_counted, counted_in}
use Rattle.kp_run.proofs.generated.Counting.take_part.Given as goal

-- the lines so far are taken
abbrev pub invariant-loop-place : goal.invariant-loop-place
invariant-loop-place l = record {
  counted : counted_in l.self ≡ fold after_counted (counted_in l.initial.self) (map (line_in l.plan l.part) (range_with_len 0 l.place));
  ready : IsReady (counted_in l.self).at.standing;
  few : l.self.number ≡ l.initial.self.number + l.place;
}
