use Rattle.std.proofs.Common.{◌≡◌, ℕ, ◌+◌, ◌<◌, [], length, map, get_or}
use Rattle.kp_replay.specs.Groups.{IsReadAs}
use Rattle.kp_replay.specs.declared.reads.Read.{Read}
use Rattle.kp_replay.proofs.reads.read_piece.Given as goal

-- the first lines were read
abbrev pub invariant-loop-k : goal.invariant-loop-k
invariant-loop-k l = record {
  long : length l.reads ≡ length l.initial.reads;
  each : (j : ℕ) (d : Read) → j < l.k → IsReadAs (l.number + (l.start + j))
      (get_or (map (λ line. line.now) l.lines) (l.start + j) []) (get_or l.reads j d);
}
