use Rattle.std.proofs.Common.{◌≡◌, ◌+◌, ◌≤◌, length, drop}
use Rattle.std.specs.Net.Text.{zero_run, longest_zero_run}
use Rattle.kp_print.proofs.groups.longest_zero_run.Given as goal

-- the run of zeros from here, and the longest one from here on
abbrev pub invariant-loop-place : goal.invariant-loop-place
invariant-loop-place l = record {
  run : l.run ≡ zero_run (drop l.place l.groups);
  count : l.longest.1 ≡ (longest_zero_run (drop l.place l.groups)).1;
  start : l.longest.0 ≡ l.place + (longest_zero_run (drop l.place l.groups)).0;
  run_within : l.place + l.run ≤ length l.groups;
  within : l.longest.0 + l.longest.1 ≤ length l.groups;
}
