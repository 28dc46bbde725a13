use Rattle.kp_udp_endpoints.proofs.Apart.{lists_added}
use Rattle.kp_udp_endpoints.proofs.changed.Changed.push_lists.Goals as goal

pub returns : goal.returns
returns c =
    lists_added c.args.before.now c.args.after.now _ _ _ _ c.args.self.now c.push_apart.new.self
    c.push_apart-2.new.self c.cluster_of.ensures c.cluster_of-2.ensures c.local_of.ensures
    c.local_of-2.ensures c.in_ok-push_apart.ensures c.in_ok-push_apart-2.ensures
