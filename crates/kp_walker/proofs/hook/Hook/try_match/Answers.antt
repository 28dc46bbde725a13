use Rattle.kp_walker.proofs.hook.Hook.try_match.Goals as goal

-- a draw is tried
pub returns-in-Statistic-clause-ok : goal.returns-in-Statistic-clause-ok
returns-in-Statistic-clause-ok g c draws drawn =
    rw c.in-Statistic.is (c.try_draw.ensures draws c.args.lists.now drawn)
