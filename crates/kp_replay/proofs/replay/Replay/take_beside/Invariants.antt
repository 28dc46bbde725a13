use Rattle.std.proofs.Common.{◌≡◌, ◌+◌, length, map}
use Rattle.kp_replay.specs.Steps.{standing_of}
use Rattle.kp_replay.proofs.AheadLemmas.{IsBetween}
use Rattle.kp_replay.proofs.replay.Replay.take_beside.Given as goal

-- lines are left after those that were read
abbrev pub invariant-loop-rest : goal.invariant-loop-rest
invariant-loop-rest g l = record {
  between : IsBetween l.number (map (λ line. line.now) l.lines) (standing_of l.initial.self)
      (standing_of l.self) l.initial.text.items l.text.items l.reads.current.items l.next
      (map (λ line. line.now) l.rest);
  all : l.next + length l.rest ≡ l.number + length l.lines;
}

abbrev pub decreases-loop-rest : goal.decreases-loop-rest
decreases-loop-rest g l = length l.rest
