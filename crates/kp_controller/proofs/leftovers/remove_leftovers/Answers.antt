use Rattle.std.proofs.Common.{map, filter, ap, ◌∙◌}
use Rattle.std.proofs.lemmas.Result.{on_ok_weaker}
use Rattle.kp_object_defs.specs.SlicesNow.{is_leftover}
use Rattle.kp_controller.specs.Replaced.{without_keys}
use Rattle.kp_controller.proofs.Kept.{without_passing}
use Rattle.kp_controller.proofs.leftovers.remove_leftovers.Goals as goal

pub returns : goal.returns
returns c =
    let o = c.args.objects.now in
    let old = c.args.slices.now in
    on_ok_weaker c.take_all.result (λ is.
    is
    ∙ ap (λ ks. without_keys ks old)
    (c.as_slice-2.ensures
    ∙ c.in_ok-left_over.ensures
    ∙ ap (λ ss. map (λ s. s.key) (filter (is_leftover o) ss)) (ap (map (λ s. s.now)) c.as_slice.ensures.value ∙ c.in_ok-all.ensures.found))
    ∙ without_passing (is_leftover o) old c.all.ensures.own_keys)
    c.take_all.ensures
