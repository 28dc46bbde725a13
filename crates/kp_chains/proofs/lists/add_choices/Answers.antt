use Rattle.kp_chains.proofs.ChoiceSteps.{next_choice, next_left}
use Rattle.kp_chains.proofs.lists.add_choices.Goals as goal

pub loop-endpoint-preserved : goal.loop-endpoint-preserved
loop-endpoint-preserved c =
    let es = c.args.endpoints.now in
    let i = c.loop-endpoint.endpoint-index in
    let so_far = c.loop-endpoint.invariant in
    record {
      rules = next_choice _ c.loop-endpoint.rules.items c.loop-endpoint.left es i c.endpoint-item.result c.choice_rule.result c.in_ok-push.ensures.items so_far.rules so_far.left c.loop-endpoint-test.true c.endpoint-item.is c.choice_rule.ensures;
      left = next_left _ es i so_far.left c.loop-endpoint-test.true;
    }
