use Rattle.std.proofs.Common.{sym, ap, subst, ◌∙◌}
use Rattle.std.specs.FinMap as finite
use Rattle.std.proofs.lemmas.Result.{on_ok_weaker}
use Rattle.kp_store.proofs.OwnObjects.{either_way}
use Rattle.kp_table_laws.specs.Laws.{AreInOrder}
use Rattle.kp_vmap_defs.specs.VerdictMap.{by_name}
use Rattle.kp_vmap.proofs.SortedPorts.{others_in_order, with_port_in_order, with_port_inserted}
use Rattle.kp_vmap.proofs.ports.Ports.put.Goals as goal

pub returns : goal.returns
returns c =
    on_ok_weaker c.put_port.result (λ is.
    ap by_name is
    ∙ with_port_inserted c.args.port c.self.inside.items.items c.self.invariant
    ∙ ap (λ m. finite.insert m c.args.port.key c.args.port) c.self.view_is)
    c.put_port.ensures.ok

pub invariant_of-self : goal.invariant_of-self
invariant_of-self c =
    let before = c.self.inside.items.items in
    either_way c.put_port.result c.put_port.ensures.ok c.put_port.ensures.err
    (λ is. subst AreInOrder (sym is) (with_port_in_order c.args.port before c.self.invariant))
    (λ is. subst AreInOrder (sym is) (others_in_order c.args.port.key before c.self.invariant))
