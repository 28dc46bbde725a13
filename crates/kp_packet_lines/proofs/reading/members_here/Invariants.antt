use Rattle.std.proofs.Common.{ℕ, ◌≤◌, length}
use Rattle.kp_packet_lines.specs.Plain.{members_of}
use Rattle.kp_packet_lines.proofs.Tokens.{MembersSoFar}
use Rattle.kp_packet_lines.proofs.reading.members_here.Given as goal

abbrev pub invariant-members : goal.invariant-members
invariant-members l =
    (n : ℕ) × (length l.reader ≤ n) × MembersSoFar l.initial.reader (members_of l.members.items) l.reader n
    × (length l.reader ≤ length l.initial.reader)

abbrev pub decreases-members : goal.decreases-members
decreases-members l = length l.reader
