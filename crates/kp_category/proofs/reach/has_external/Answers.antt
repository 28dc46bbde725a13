use Rattle.std.proofs.Common.{not, ap, ◌∙◌}
use Rattle.kp_object_defs.specs.Desired.{is_empty}
use Rattle.kp_object_defs.specs.PortInfo.{addresses_in}
use Rattle.kp_category.proofs.Addresses.{has_address}
use Rattle.kp_category.proofs.reach.has_external.Goals as goal

pub returns : goal.returns
returns c =
    c.has_address_in.ensures ∙ has_address c.args.family c.external_of.result.now
    ∙ ap (λ addresses. not (is_empty (addresses_in c.args.family addresses))) c.external_of.ensures
