use Rattle.std.proofs.Common.{◌∙◌, ap, subst}
use Rattle.std.specs.FinMap.{get}
use Rattle.kp_table_defs.specs.Walk as walk
use Rattle.kp_walker.specs.Answers.{names_of}
use Rattle.kp_walker.specs.Sets.{ComesToSet}
use Rattle.kp_walker.proofs.SetSteps.{on_err}
use Rattle.kp_walker.proofs.walking.walk.Goals as goal

-- the answer is read off the journey
pub returns-clause-walk : goal.returns-clause-walk
returns-clause-walk g c draws drawn =
    (λ i. record { verdict = c.verdict.ensures i; trail = names_of (c.trail.ensures i); lists = c.go.new.lists })
    ∙ ap walk.walked_by (c.in_ok-journey.ensures.way_on draws drawn)
    ∙ ap (λ node. walk.walk_of (get c.args.table.now.chains) node c.args.packet.now draws c.args.lists.now) c.as_slice.ensures

-- the journey comes to the set
pub returns-in_err-journey-clause-refused : goal.returns-in_err-journey-clause-refused
returns-in_err-journey-clause-refused g c = on_err c.from_residual.result (λ draws drawn.
    subst (λ node. ComesToSet (get c.args.table.now.chains) node c.args.packet.now draws c.args.lists.now c.go.new.lists)
    c.as_slice.ensures (c.in_err-journey.ensures.refused draws drawn))
