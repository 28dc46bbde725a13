use Rattle.std.proofs.Common.{◌≡◌, true, take}
use Rattle.std.specs.List.{list_all}
use Rattle.kp_replay.specs.Groups.{is_aside}
use Rattle.kp_replay.proofs.together.aside_len.Given as goal

-- those so far may
abbrev pub invariant-loop-read : goal.invariant-loop-read
invariant-loop-read l = record {
  count : l.count ≡ l.read-index;
  aside : list_all is_aside (take l.read-index l.reads) ≡ true;
}
