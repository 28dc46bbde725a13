use Rattle.std.proofs.Common.{◌∙◌}
use Rattle.kp_port_info.proofs.Tests.{first_addresses}
use Rattle.kp_port_info.proofs.destinations.addresses_in.Goals as goal

pub returns : goal.returns
returns c =
    c.from_vec.ensures ∙ first_addresses _ _ _ c.in_ok-once.ensures (c.deref.ensures.value ∙ c.in_ok-of_family.ensures)
