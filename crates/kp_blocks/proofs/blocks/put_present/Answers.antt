use Rattle.std.proofs.Common.{is_some, ap, ◌∙◌}
use Rattle.kp_base.proofs.KeyOrder.{port_key_total, port_key_exact, port_key_tree_ties}
use Rattle.kp_base.proofs.Maps.{inserted, lookup-get}
use Rattle.kp_blocks.proofs.PutBack.{since_present}
use Rattle.kp_blocks.proofs.blocks.put_present.Goals as goal

pub returns : goal.returns
returns c =
    let was = c.args.ports.now.entries in
    inserted port_key_total port_key_tree_ties port_key_exact was c.insert.new.self.entries
    c.args.port c.args.block
    (since_present c.insert.result _ _ c.insert.ensures.updates c.insert.ensures.absent
    (ap is_some (lookup-get port_key_total port_key_tree_ties was c.args.port) ∙ c.requires)).0
