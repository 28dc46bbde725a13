use Rattle.std.proofs.Common.{◌∙◌}
use Rattle.kp_objects.proofs.SeenOrder.{id_is_new, id_was_added}
use Rattle.kp_objects.proofs.service.seen.SeenPorts.add.Goals as goal

pub returns-clause-new : goal.returns-clause-new
returns-clause-new c = id_is_new c.args.self.now.ids _ _ c.args.port.now.proto _ (c.in_ok-name.ensures.1 ∙ c.as_str.ensures) c.in_ok-insert.ensures.added

pub returns-clause-added : goal.returns-clause-added
returns-clause-added c = id_was_added c.args.self.now.ids c.insert.new.self _ _ c.args.port.now.proto (c.in_ok-name.ensures.1 ∙ c.as_str.ensures) c.in_ok-insert.ensures.updates.0
