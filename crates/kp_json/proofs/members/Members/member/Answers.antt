use Rattle.std.proofs.Common.{refl}
use Rattle.std.proofs.lemmas.Iterator.Consumers.{YieldsList-from_first, nth_from_yields_List}
use Rattle.kp_json.specs.Views.{members_left, named_place}
use Rattle.kp_json.proofs.members.Members.member.Goals as goal

-- the i-th item of the iterator
pub returns : goal.returns
returns c =
    nth_from_yields_List c.nth.result c.nth.new.self c.args.i c.nth.ensures.ran
    (YieldsList-from_first named_place members_left (members_left c.args.self.now) refl)
