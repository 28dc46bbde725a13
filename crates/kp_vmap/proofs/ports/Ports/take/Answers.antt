use Rattle.std.proofs.Common.{sym, ap, subst, ◌∙◌}
use Rattle.std.specs.FinMap as finite
use Rattle.kp_table_laws.specs.Laws.{AreInOrder}
use Rattle.kp_vmap_defs.specs.VerdictMap.{by_name}
use Rattle.kp_vmap.proofs.SortedPorts.{others_are_removed, others_in_order}
use Rattle.kp_vmap.proofs.ports.Ports.take.Goals as goal

pub returns : goal.returns
returns c =
    ap by_name c.take_port.ensures
    ∙ others_are_removed c.args.key.now c.self.inside.items.items
    ∙ ap (λ m. finite.remove m c.args.key.now) c.self.view_is

pub invariant_of-self : goal.invariant_of-self
invariant_of-self c =
    subst AreInOrder (sym c.take_port.ensures)
    (others_in_order c.args.key.now c.self.inside.items.items c.self.invariant)
