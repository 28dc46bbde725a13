use Rattle.std.proofs.Common.{◌∙◌}
use Rattle.std.specs.FinMap as finite
use Rattle.kp_base.proofs.KeyOrder.{port_key_total, port_key_exact, port_key_tree_ties}
use Rattle.kp_base.proofs.Maps.{inserted}
use Rattle.kp_blocks.proofs.blocks.Blocks.put.Goals as goal

pub returns-clause-ok : goal.returns-clause-ok
returns-clause-ok c =
    inserted port_key_total port_key_tree_ties port_key_exact c.self.inside.ports.entries c.insert.new.self.entries c.in_ok-copy.field-0 c.args.block c.in_ok-insert.ensures.updates.0
    ∙ (λ i. finite.insert (c.self.view_is i) (c.in_ok-copy.ensures i) c.args.block)
