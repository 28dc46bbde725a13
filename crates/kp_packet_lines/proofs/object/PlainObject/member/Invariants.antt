use Rattle.std.proofs.Common.{◌≡◌, ◌≤◌, length, take}
use Rattle.serde_json.specs.Find.{get_member}
use Rattle.kp_packet_lines.specs.Plain.{members_of}
use Rattle.kp_packet_lines.proofs.object.PlainObject.member.Given as goal

-- the member isn't among those that were passed
abbrev pub invariant-loop-left : goal.invariant-loop-left
invariant-loop-left l =
    (get_member l.name (members_of l.self.members.items) ≡ get_member l.name (members_of (take l.left l.self.members.items)))
    × (l.left ≤ length l.self.members.items)

abbrev pub decreases-loop-left : goal.decreases-loop-left
decreases-loop-left l = l.left
