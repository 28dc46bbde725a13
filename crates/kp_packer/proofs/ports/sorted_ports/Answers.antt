use Rattle.std.proofs.Common.{rules, ◌≡◌, subst}
use Rattle.std.specs.List.Sorted.{IsStableBy}
use Rattle.std.proofs.lemmas.Fn.{always_returns_same}
use Rattle.kp_packer.proofs.PortOrder.{port_lt, ports_rank, ports_sorted}
use Rattle.kp_packer.proofs.ports.sorted_ports.Goals as goal

pub returns : goal.returns
returns c =
    let copied : c.into_vec-sorted.result.items ≡ c.args.ports.now = search rules in
    let compares = always_returns_same _ _ _ (λ a r k q. search rules) in
    ports_sorted c.args.ports.now c.sort_by.new.self.items
    (c.in_ok-sort_by.ensures.sorted port_lt ports_rank compares)
    (subst (λ l. IsStableBy port_lt l c.sort_by.new.self.items) copied (c.sort_by.ensures.stable port_lt ports_rank compares))
