use Rattle.kp_settle_laws.proofs.Settling as laws
use Rattle.kp_settle_laws.proofs.packing_settles.Goals as goal

pub returns-clause-stay : goal.returns-clause-stay
returns-clause-stay c =
    laws.settled_stay c.slices_now.ensures.can_be_packed c.wanted_endpoints.ensures.desired_named

pub returns-clause-packed : goal.returns-clause-packed
returns-clause-packed c = laws.packed_settle

pub returns-clause-settles : goal.returns-clause-settles
returns-clause-settles c = laws.packing_settles c.slices_now.ensures.can_be_packed

pub returns-clause-others : goal.returns-clause-others
returns-clause-others c = laws.others_stay

pub returns-clause-other_family : goal.returns-clause-other_family
returns-clause-other_family c = laws.other_family_stays

pub returns-clause-one_more : goal.returns-clause-one_more
returns-clause-one_more c = laws.one_more_settled

pub returns-clause-leftovers : goal.returns-clause-leftovers
returns-clause-leftovers c = laws.leftovers_stay
