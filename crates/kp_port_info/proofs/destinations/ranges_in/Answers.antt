use Rattle.std.proofs.Common.{◌∙◌}
use Rattle.kp_port_info.proofs.Tests.{first_ranges}
use Rattle.kp_port_info.proofs.destinations.ranges_in.Goals as goal

pub returns : goal.returns
returns c =
    c.from_vec.ensures ∙ first_ranges _ _ _ c.in_ok-once.ensures (c.deref.ensures.value ∙ c.in_ok-of_family.ensures)
