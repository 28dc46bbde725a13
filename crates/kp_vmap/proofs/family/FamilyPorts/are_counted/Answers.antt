use Rattle.std.proofs.Common.{arith}
use Rattle.kp_vmap.proofs.PortsInOrder.{few_values}
use Rattle.kp_vmap.proofs.family.FamilyPorts.are_counted.Goals as goal

pub returns : goal.returns
returns c = omega (arith, few_values c.args.self.now.ports.entries, c.len.ensures.small)
