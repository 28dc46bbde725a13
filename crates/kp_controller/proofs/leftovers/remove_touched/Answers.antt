use Rattle.std.proofs.Common.{◌||◌, map, flat_map, sym, ap, ◌∙◌, Bor}
use Rattle.std.specs.FinMap as finite
use Rattle.std.proofs.lemmas.Result.{on_ok_weaker}
use Rattle.kp_base.specs.declared.key.ObjectKey.{ObjectKey}
use Rattle.kp_controller.specs.Replaced.{without_keys}
use Rattle.kp_controller.specs.Settling.{left_near}
use Rattle.kp_controller.proofs.LeftNear.{left_by_index}
use Rattle.kp_controller.proofs.leftovers.remove_touched.Goals as goal

pub returns : goal.returns
returns c =
    let o = c.args.objects.now in
    let old = c.args.slices.now in
    let keys = c.args.touched.now.keys in
    on_ok_weaker c.take_all.result (λ is.
    is
    ∙ ap (λ ks. without_keys ks old)
    (c.as_slice-2.ensures
    ∙ c.in_ok-near.ensures
    ∙ ap (flat_map (left_near o old))
    (ap (map (λ (k : Bor ObjectKey). k.now)) c.as_slice.ensures.value ∙ c.in_ok-services.ensures))
    ∙ left_by_index o old c.own_keys.ensures keys (λ slice service at left of.
    sym (ap (λ b. b || finite.contains_key keys service) c.if-touched.false)
    ∙ c.requires.left slice service at left of))
    c.take_all.ensures
