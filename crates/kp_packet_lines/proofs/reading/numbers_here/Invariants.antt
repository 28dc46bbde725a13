use Rattle.std.proofs.Common.{ℕ, ◌<◌, ◌≤◌, ◌^◌, length}
use Rattle.std.specs.Prelude.{All}
use Rattle.kp_packet_lines.proofs.Tokens.{ItemsSoFar}
use Rattle.kp_packet_lines.proofs.reading.numbers_here.Given as goal

abbrev pub invariant-numbers : goal.invariant-numbers
invariant-numbers l =
    (n : ℕ) × (length l.reader ≤ n) × ItemsSoFar l.initial.reader l.numbers.items l.reader n
    × All (λ k. k < 2 ^ 31) l.numbers.items × (length l.reader ≤ length l.initial.reader)

abbrev pub decreases-numbers : goal.decreases-numbers
decreases-numbers l = length l.reader
