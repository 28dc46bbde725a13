use Rattle.std.proofs.Common.{◌≡◌, ◌++◌, take, string_bytes}
use Rattle.std.specs.List.{flat_map}
use Rattle.kp_rule_text.specs.Lines.{match_text}
use Rattle.kp_rule_text.proofs.print.push_matches.Given as goal

-- the matches so far are added
abbrev pub invariant-loop-matched : goal.invariant-loop-matched
invariant-loop-matched l = string_bytes l.line ≡ string_bytes l.initial.line ++ flat_map match_text (take l.matched-index l.matches)
