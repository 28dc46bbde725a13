use Rattle.std.proofs.Common.{◌≡◌, ◌+◌, false, map, take}
use Rattle.std.specs.Prelude.{string_bytes}
use Rattle.kp_replay.specs.Groups.{lines_from}
use Rattle.kp_replay.specs.Steps.{standing_of}
use Rattle.kp_replay.proofs.replay.Replay.take_lines.Given as goal

-- the first lines were taken
abbrev pub invariant-loop-line : goal.invariant-loop-line
invariant-loop-line l =
    let start = standing_of l.initial.self in
    let first = map (λ line. line.now) (take l.line-index l.lines) in
    record {
      stands : standing_of l.self ≡ (lines_from l.number first start).next;
      text : string_bytes l.printed ≡ (lines_from l.number first start).text;
      begun : (standing_of l.self).fresh ≡ false;
      next : l.next ≡ l.number + l.line-index;
    }
