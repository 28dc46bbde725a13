use Rattle.std.proofs.Common.{◌≡◌, ◌↔◌, not, false, sym, subst, ◌∙◌}
use Rattle.kp_types.specs.declared.event.Event.{Event}
use Rattle.kp_object_defs.specs.Objects.{objects_step}
use Rattle.kp_store.proofs.Unchanged.{absent_stay, fails_where, stored_stay}
use Rattle.kp_store.proofs.objects.Objects.changes.Goals as goal

pub returns-in-Apply : goal.returns-in-Apply
returns-in-Apply c =
    let o = c.args.self.now in
    subst (λ (e : Event). (not c.is_stored.result ≡ false) ↔ (objects_step o e ≡ o))
    (sym c.in-Apply.is)
    (fails_where c.is_stored.result c.is_stored.ensures (stored_stay o c.in-Apply.object))

pub returns-in-Delete : goal.returns-in-Delete
returns-in-Delete c =
    let o = c.args.self.now in
    let same = absent_stay o c.in-Delete.kind c.in-Delete.key in
    subst (λ (e : Event). (c.is_there.result ≡ false) ↔ (objects_step o e ≡ o))
    (sym c.in-Delete.is)
    ((λ h. same.0 (sym c.is_there.ensures ∙ h)), (λ e. c.is_there.ensures ∙ same.1 e))
