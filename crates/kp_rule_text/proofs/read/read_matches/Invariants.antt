use Rattle.std.proofs.Common.{◌≡◌, ◌-◌, length}
use Rattle.kp_rule_text.specs.Reading.{matches_of}
use Rattle.kp_rule_text.proofs.Rules.{after}
use Rattle.kp_rule_text.proofs.read.read_matches.Given as goal

-- the matches so far and those of the rest are the matches of the text
abbrev pub invariant-loop : goal.invariant-loop
invariant-loop l = record {
  count : length l.matches.items ≡ l.counter;
  read : after l.matches.items (matches_of l.family (4 - l.counter) l.rest) ≡ matches_of l.family 4 l.text;
}
