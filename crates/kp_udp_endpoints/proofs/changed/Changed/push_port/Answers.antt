use Rattle.std.proofs.Common.{rules, subst}
use Rattle.kp_udp_endpoints.specs.Changed.{AreAdded}
use Rattle.kp_udp_endpoints.specs.Endpoints.{gone_of, listed_if}
use Rattle.kp_udp_endpoints.proofs.Apart.{udp_added}
use Rattle.kp_udp_endpoints.proofs.changed.Changed.push_port.Goals as goal

pub returns : goal.returns
returns c =
    let port = c.args.port.now in
    subst (λ info. AreAdded (gone_of port) (listed_if port.key info) c.args.self.now c.push_lists.new.self)
    c.in_ok-info.ensures
    (udp_added port.key port.before c.in_ok-info.info c.args.self.now c.push_lists.new.self
    (search rules) c.in_ok-push_lists.ensures)
