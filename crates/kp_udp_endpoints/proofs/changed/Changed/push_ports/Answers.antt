use Rattle.std.proofs.Common.{ap, subst, ◌∙◌, take, arith}
use Rattle.std.proofs.Math.Seq.{take-length}
use Rattle.std.specs.List.{flat_map}
use Rattle.kp_udp_endpoints.specs.Changed.{AreAdded}
use Rattle.kp_types.specs.Setting.{config_for}
use Rattle.kp_udp_endpoints.specs.Endpoints.{gone_of, new_of}
use Rattle.kp_udp_endpoints.proofs.Apart.{port_added}
use Rattle.kp_udp_endpoints.proofs.changed.Changed.push_ports.Goals as goal

pub loop-port-preserved : goal.loop-port-preserved
loop-port-preserved c =
    let a = c.args in
    port_added gone_of (new_of a.family (config_for a.family a.config.now) a.objects.now) a.dirty.now
    c.loop-port.port-index c.port-item.result a.self.now c.loop-port.self c.push_port.new.self
    c.loop-port-test.true c.port-item.is c.loop-port.invariant c.in_ok-push_port.ensures

pub returns : goal.returns
returns c =
    let a = c.args in
    subst
    (λ ports. AreAdded (flat_map gone_of ports)
    (flat_map (new_of a.family (config_for a.family a.config.now) a.objects.now) ports) a.self.now
    c.loop-port.self)
    (ap (λ n. take n a.dirty.now)
    (omega (arith, c.loop-port-test.false, c.loop-port.auto.port-index-end))
    ∙ take-length a.dirty.now) c.loop-port.invariant
