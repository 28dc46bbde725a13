use Rattle.std.proofs.Common.{◌++◌, List, ap, flat_map, ◌∙◌}
use Rattle.kp_types.specs.declared.rule.ChainText.{ChainText}
use Rattle.kp_types.specs.declared.rule.Rule.{Rule}
use Rattle.std.specs.FinMap as finite
use Rattle.std.proofs.lemmas.Result.{on_ok_weaker}
use Rattle.kp_blocks.specs.Joined.{block_rules}
use Rattle.kp_blocks.proofs.BlockValues.{block_values}
use Rattle.kp_blocks.proofs.blocks.Blocks.add_all.Goals as goal

pub returns : goal.returns
returns c =
    let added : List (List ChainText) → List Rule = λ bs. c.args.rules.now.items ++ flat_map
    (block_rules c.args.at.now) bs in
    on_ok_weaker c.add_blocks.result (λ is.
    is
    ∙ ap added (block_values c.self.inside.ports.entries c.add_blocks.ensures.in_order)
    ∙ ap (λ m. added (finite.values m)) c.self.view_is) c.add_blocks.ensures.rules
