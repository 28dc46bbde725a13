use Rattle.std.proofs.Common.{ap, ◌∙◌}
use Rattle.std.specs.FinMap as finite
use Rattle.kp_base.proofs.KeyOrder.{port_key_total, port_key_exact, port_key_tree_ties}
use Rattle.kp_base.proofs.Maps.{removed}
use Rattle.kp_blocks.proofs.blocks.Blocks.drop_port.Goals as goal

pub returns : goal.returns
returns c =
    removed port_key_total port_key_tree_ties port_key_exact c.self.inside.ports.entries c.remove.new.self.entries c.args.port.now c.remove.ensures.updates.0
    ∙ ap (λ m. finite.remove m c.args.port.now) c.self.view_is
