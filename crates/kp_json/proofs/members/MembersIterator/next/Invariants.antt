use Rattle.std.proofs.Common.{◌≡◌, length}
use Rattle.kp_json.specs.Views.{members_left}
use Rattle.kp_json.proofs.members.MembersIterator.next.Given as goal

-- what was passed over was null
abbrev pub invariant-loop-name : goal.invariant-loop-name
invariant-loop-name l = members_left l.self ≡ members_left l.initial.self

abbrev pub decreases-loop-name : goal.decreases-loop-name
decreases-loop-name l = length l.self.rest
