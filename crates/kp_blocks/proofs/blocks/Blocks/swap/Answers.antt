use Rattle.std.proofs.Common.{ap, ◌∙◌}
use Rattle.std.specs.FinMap as finite
use Rattle.kp_base.proofs.KeyOrder.{port_key_total, port_key_exact, port_key_tree_ties}
use Rattle.kp_base.proofs.Maps.{inserted, lookup-get}
use Rattle.kp_blocks.proofs.blocks.Blocks.swap.Goals as goal

pub returns-clause-ok : goal.returns-clause-ok
returns-clause-ok c =
    inserted port_key_total port_key_tree_ties port_key_exact c.self.inside.ports.entries
    c.insert.new.self.entries c.args.port c.args.block c.in_ok-insert.ensures.updates.0
    ∙ ap (λ m. finite.insert m c.args.port c.args.block) c.self.view_is

pub returns-clause-had : goal.returns-clause-had
returns-clause-had c =
    c.in_ok-insert.ensures.old
    ∙ lookup-get port_key_total port_key_tree_ties c.self.inside.ports.entries c.args.port
    ∙ ap (λ m. finite.get m c.args.port) c.self.view_is
