use Rattle.std.proofs.Common.{sym, subst}
use Rattle.kp_changes.specs.After.{After, AreRight, AreThere}
use Rattle.kp_changes.proofs.Kept.{stay_right}
use Rattle.kp_changes.proofs.after.After.keep.Goals as goal

pub invariant_of-self : goal.invariant_of-self
invariant_of-self c = subst (AreRight _) (sym c.in_err-insert.ensures.err) c.self.invariant

pub invariant_of-self-2 : goal.invariant_of-self-2
invariant_of-self-2 c =
    stay_right _ c.self.inside.crowds.entries _ c.args.at c.args.crowd
    c.in_ok-insert.ensures.updates.0
    (subst (λ (a : After). AreThere a.synced c.args.at c.args.crowd) (sym c.self.view_is) c.requires.there)
    c.self.invariant
