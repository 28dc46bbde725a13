use Rattle.std.proofs.Common.{◌≡◌, length}
use Rattle.serde_json.specs.Find.{get_member}
use Rattle.kp_packet_lines.specs.Plain.{members_of}
use Rattle.kp_packet_lines.proofs.object.PlainObject.into_member.Given as goal

-- the member isn't among those that were passed
abbrev pub invariant-members : goal.invariant-members
invariant-members l = get_member l.name (members_of l.initial.members.items) ≡ get_member l.name (members_of l.members.items)

abbrev pub decreases-members : goal.decreases-members
decreases-members l = length l.members.items
