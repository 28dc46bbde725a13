use Rattle.std.proofs.Common.{ap, ◌∙◌}
use Rattle.std.specs.FinMap as finite
use Rattle.kp_base.proofs.KeyOrder.{port_key_total, port_key_tree_ties}
use Rattle.kp_base.proofs.Maps.{lookup-get}
use Rattle.kp_blocks.proofs.blocks.Blocks.block.Goals as goal

pub returns : goal.returns
returns c =
    c.get.ensures.value
    ∙ lookup-get port_key_total port_key_tree_ties c.self.inside.ports.entries c.args.port.now
    ∙ ap (λ m. finite.get m c.args.port.now) c.self.view_is
