use Rattle.kp_chains.proofs.ChoiceSteps.{choice_of_some, choice_of_last}
use Rattle.kp_chains.proofs.lists.choice_rule.Goals as goal

pub returns-then-left-gt1 : goal.returns-then-left-gt1
returns-then-left-gt1 c =
    choice_of_some _ _ _ _ _ c.rule1.ensures c.probability-p.ensures c.same.ensures c.if-left-gt1.true

pub returns-else-left-gt1 : goal.returns-else-left-gt1
returns-else-left-gt1 c = choice_of_last _ _ _ _ c.rule0.ensures c.same.ensures c.if-left-gt1.false
