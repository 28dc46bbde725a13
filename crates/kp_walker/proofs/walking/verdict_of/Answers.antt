use Rattle.std.proofs.Common.{◌∙◌, ap, subst}
use Rattle.std.specs.FinMap.{get}
use Rattle.kp_table_defs.specs.Walk as walk
use Rattle.kp_walker.specs.Sets.{ComesToSet}
use Rattle.kp_walker.proofs.SetSteps.{on_err}
use Rattle.kp_walker.proofs.walking.verdict_of.Goals as goal

-- the verdict is read off the journey
pub returns-clause-verdict : goal.returns-clause-verdict
returns-clause-verdict g c draws drawn =
    c.verdict.ensures
    ∙ ap (λ j. (walk.walked_by j).verdict) (c.in_ok-journey.ensures.way_on draws drawn)
    ∙ ap (λ node. (walk.walk_of (get c.args.table.now.chains) node c.args.packet.now draws c.args.lists.now).verdict)
    c.as_slice.ensures

-- and so are the lists
pub returns-clause-lists : goal.returns-clause-lists
returns-clause-lists g c draws drawn =
    ap (λ j. (walk.walked_by j).lists) (c.in_ok-journey.ensures.way_on draws drawn)
    ∙ ap (λ node. (walk.walk_of (get c.args.table.now.chains) node c.args.packet.now draws c.args.lists.now).lists)
    c.as_slice.ensures

-- the journey comes to the set
pub returns-in_err-journey-clause-refused : goal.returns-in_err-journey-clause-refused
returns-in_err-journey-clause-refused g c = on_err c.from_residual.result (λ draws drawn.
    subst (λ node. ComesToSet (get c.args.table.now.chains) node c.args.packet.now draws c.args.lists.now c.go.new.lists)
    c.as_slice.ensures (c.in_err-journey.ensures.refused draws drawn))
