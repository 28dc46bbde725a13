use Rattle.std.proofs.Common.{sym, subst}
use Rattle.kp_types.specs.Setting.{config_for}
use Rattle.kp_decide.specs.Enough.{AreEnough}
use Rattle.kp_vmap_defs.specs.Remainder.{known_in}
use Rattle.kp_vmap.proofs.PortsHere.{enough}
use Rattle.kp_vmap.proofs.source.MapPortsPortSource.ports_at.Goals as goal

pub returns-clause-enough : goal.returns-clause-enough
returns-clause-enough c =
    let m = c.args.self.now.map.now in
    let config = config_for c.args.family m.config in
    let packet = c.args.packet.now in
    let all = known_in m c.args.family in
    subst (λ some. AreEnough config packet some all) (sym c.ports_here.ensures.ports)
    (enough config packet all)
