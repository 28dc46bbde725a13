use Rattle.std.proofs.Common.{sym, ap, ◌∙◌}
use Rattle.std.specs.FinMap as finite
use Rattle.kp_base.proofs.KeyOrder.{port_key_total, port_key_exact, port_key_tree_ties}
use Rattle.kp_base.proofs.Maps.{removed}
use Rattle.kp_blocks.proofs.PutBack.{put_again, removed_again}
use Rattle.kp_blocks.proofs.blocks.Blocks.put_back.Goals as goal

pub returns-in-None : goal.returns-in-None
returns-in-None c m block is had =
    removed port_key_total port_key_tree_ties port_key_exact c.self.inside.ports.entries
    c.remove.new.self.entries c.args.port c.remove.ensures.updates.0
    ∙ ap (λ n. finite.remove n c.args.port) c.self.view_is
    ∙ removed_again m c.args.self.now c.args.port block is (sym c.in-None.is ∙ had)

pub returns-in-Some : goal.returns-in-Some
returns-in-Some c m block is had =
    c.put_present.ensures
    ∙ ap (λ n. finite.insert n c.args.port c.in-Some.block) c.self.view_is
    ∙ put_again m c.args.self.now c.args.port block is c.in-Some.block (sym c.in-Some.is ∙ had)
