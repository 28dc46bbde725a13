use Rattle.std.proofs.Common.{◌≡◌, ◌↔◌, false, sym, subst}
use Rattle.kp_object_defs.specs.Objects.{objects_step}
use Rattle.kp_plane.proofs.collected.apply_changing.Goals as goal

pub returns-in_ok-apply-clause-changed : goal.returns-in_ok-apply-clause-changed
returns-in_ok-apply-clause-changed c =
    let old = c.args.objects.now in
    subst (λ b. (b ≡ false) ↔ (objects_step old c.args.event.now ≡ old)) c.if-changes.true
    c.changes.ensures

pub returns-else-changes-clause-changed : goal.returns-else-changes-clause-changed
returns-else-changes-clause-changed c =
    let old = c.args.objects.now in
    subst (λ b. (b ≡ false) ↔ (objects_step old c.args.event.now ≡ old)) c.if-changes.false
    c.changes.ensures

pub returns-else-changes-clause-ok : goal.returns-else-changes-clause-ok
returns-else-changes-clause-ok c = sym (c.changes.ensures.0 c.if-changes.false)
