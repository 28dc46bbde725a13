use Rattle.std.proofs.Common.{◌≡◌, ◌≤◌, true, map, length, ◌++◌}
use Rattle.std.specs.List.{list_all}
use Rattle.kp_restore_text.specs.Pieces.{no_line_feed}
use Rattle.kp_restore_defs.specs.TableText.{text_of_lines}
use Rattle.kp_replay.proofs.group.group_of.Given as goal

-- the lines were cut from the front
abbrev pub invariant-loop : goal.invariant-loop
invariant-loop l = record {
  front : l.bytes ≡ text_of_lines (map (λ line. line.now) l.lines.items) ++ l.rest;
  feedless : list_all no_line_feed (map (λ line. line.now) l.lines.items) ≡ true;
  few : length l.lines.items ≤ l.counter;
}
