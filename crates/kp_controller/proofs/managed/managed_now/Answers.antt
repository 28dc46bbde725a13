use Rattle.std.proofs.Common.{map, filter, ap, ◌∙◌}
use Rattle.std.specs.FinMap as finite
use Rattle.kp_base.specs.declared.address.Family.TheVariants.{V4, V6}
use Rattle.kp_object_defs.specs.PackingLaws.{is_managed_for}
use Rattle.kp_controller.proofs.Narrowed.{managed_near}
use Rattle.kp_controller.proofs.managed.managed_now.Goals as goal

pub returns-clause-four : goal.returns-clause-four
returns-clause-four c =
    let key = c.args.service.now in
    c.in_ok-four.ensures
    ∙ ap (filter (is_managed_for V4 key))
    (ap (map (λ s. s.now)) c.as_slice.ensures.value ∙ c.in_ok-found.ensures.found)
    ∙ managed_near key V4 (finite.values c.args.slices.now)

pub returns-clause-six : goal.returns-clause-six
returns-clause-six c =
    let key = c.args.service.now in
    c.in_ok-six.ensures
    ∙ ap (filter (is_managed_for V6 key))
    (ap (map (λ s. s.now)) c.as_slice-2.ensures.value ∙ c.in_ok-found.ensures.found)
    ∙ managed_near key V6 (finite.values c.args.slices.now)

pub returns-clause-near : goal.returns-clause-near
returns-clause-near c =
    c.in_ok-near.ensures
    ∙ ap (map (λ s. s.key.name))
    (ap (map (λ s. s.now)) c.as_slice-3.ensures.value ∙ c.in_ok-found.ensures.found)
