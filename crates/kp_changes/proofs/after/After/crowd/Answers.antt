use Rattle.std.proofs.Common.{sym, subst}
use Rattle.kp_changes.specs.After.{After, AreThere}
use Rattle.kp_changes.proofs.Kept.{found_right}
use Rattle.kp_changes.proofs.after.After.crowd.Goals as goal

pub returns-in-Some-clause-there : goal.returns-in-Some-clause-there
returns-in-Some-clause-there c =
    let at = c.args.at.now in
    subst (AreThere c.args.self.now.synced at) (sym c.as_slice.ensures)
    (subst (λ (a : After). AreThere a.synced at c.in-Some.crowd.now) c.self.view_is
    (found_right _ c.self.inside.crowds.entries at c.in-Some.crowd.now
    (sym c.in-Some.ensures.value) c.self.invariant))
