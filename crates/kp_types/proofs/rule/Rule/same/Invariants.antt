use Rattle.std.proofs.Common.{◌≡◌, ◌≤◌, take, length}
use Rattle.kp_types.proofs.rule.Rule.same.Given as goal

-- what was copied so far is the front of the matches, of which there are at most four
abbrev pub invariant-loop-matched : goal.invariant-loop-matched
invariant-loop-matched l = record {
  front : l.matches.items ≡ take l.matched-index l.matched-items;
  room : length l.matched-items ≤ 4;
}
