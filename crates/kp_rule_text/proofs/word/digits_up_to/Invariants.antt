use Rattle.std.proofs.Common.{◌≡◌, ◌≤◌, true, take}
use Rattle.std.specs.List.{list_all}
use Rattle.kp_base.specs.Dotted.{is_digit, digits_number}
use Rattle.kp_rule_text.proofs.word.digits_up_to.Given as goal

-- the digits so far write the number
abbrev pub invariant-loop-byte : goal.invariant-loop-byte
invariant-loop-byte l = record {
  digits : list_all is_digit (take l.byte-index l.text) ≡ true;
  value : l.number ≡ digits_number 0 (take l.byte-index l.text);
  within : l.number ≤ l.most;
}
