use Rattle.std.proofs.Common.{◌∙◌}
use Rattle.kp_base.proofs.KeyOrder.{port_key_ties, port_key_total}
use Rattle.kp_base.proofs.Maps.{lookup-get}
use Rattle.kp_vmap.proofs.family.FamilyPorts.known.Goals as goal

pub returns : goal.returns
returns c =
    c.get.ensures.value ∙ lookup-get port_key_total port_key_ties c.args.self.now.ports.entries
    c.args.key.now
