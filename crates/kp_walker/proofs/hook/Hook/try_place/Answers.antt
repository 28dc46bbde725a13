use Rattle.kp_walker.specs.Progress.{state_of}
use Rattle.kp_walker.specs.Surroundings.{surroundings_of}
use Rattle.kp_walker.proofs.TriedRules.{limit_tried}
use Rattle.kp_walker.proofs.hook.Hook.try_place.Goals as goal

-- the rule was tried by its limit
pub returns-in-Some-clause-tried : goal.returns-in-Some-clause-tried
returns-in-Some-clause-tried g c draws drawn =
    let h = c.args.self.now in
    limit_tried (surroundings_of h.around.now draws) c.args.chain.now c.args.place c.in-Some.limit
    (state_of h.header c.args.progress.now c.args.lists.now)
    (state_of h.header c.try_limit.new.progress c.args.lists.now) c.try_limit.result
    c.limits.result.now c.limit_at.result c.limits.ensures c.limit_at.ensures.limit c.in-Some.is
    (c.try_limit.ensures draws c.args.lists.now drawn)
