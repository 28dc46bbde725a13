use Rattle.std.proofs.Common.{ap, subst, sym, ◌∙◌}
use Rattle.std.proofs.lemmas.Result.{on_ok_weaker}
use Rattle.kp_object_defs.specs.Desired.{desired_endpoints_of}
use Rattle.kp_object_defs.specs.PackingLaws.{IsPackingOf}
use Rattle.kp_object_defs.specs.SlicesNow.{managed_slices, with_managed}
use Rattle.kp_controller.specs.Replaced.{AreGone, without_keys}
use Rattle.kp_controller.proofs.Packed.{repacked}
use Rattle.kp_controller.proofs.managed.pack_family.Goals as goal

pub returns-clause-packed : goal.returns-clause-packed
returns-clause-packed c =
    let old = c.args.slices.now in
    let s = c.args.service.now in
    let family = c.args.before.now.family in
    let packed = c.in_ok-packed.packed in
    let gone = c.in_ok-gone.gone in
    let are = subst (λ b. AreGone b packed gone) (c.as_slice.ensures ∙ c.requires.managed)
    (subst (λ a. AreGone c.as_slice.result.now a gone) c.as_slice-2.ensures c.in_ok-gone.ensures) in
    on_ok_weaker c.put_all.result (λ is.
    is
    ∙ repacked family s.key packed gone old c.take_all.new.slices c.own_keys.ensures are
    (c.in_ok-take_all.ensures ∙ ap (λ ks. without_keys ks old) c.as_slice-3.ensures)
    ∙ ap (λ packed. with_managed family s.key packed old) c.in_ok-packed.ensures.packed)
    c.put_all.ensures

pub returns-clause-settled : goal.returns-clause-settled
returns-clause-settled c =
    let old = c.args.slices.now in
    let s = c.args.service.now in
    let family = c.args.before.now.family in
    let most = c.args.config.now.max_per_slice in
    let wanted = desired_endpoints_of family c.args.objects.now s in
    let packed = c.in_ok-packed.packed in
    let gone = c.in_ok-gone.gone in
    let given = c.in_ok-packed.ensures in
    let are = subst (λ b. AreGone b packed gone) (c.as_slice.ensures ∙ c.requires.managed)
    (subst (λ a. AreGone c.as_slice.result.now a gone) c.as_slice-2.ensures c.in_ok-gone.ensures) in
    on_ok_weaker c.put_all.result (λ is.
    subst (λ m. IsPackingOf most wanted (managed_slices family s.key m))
    (sym (is
    ∙ repacked family s.key packed gone old c.take_all.new.slices c.own_keys.ensures are
    (c.in_ok-take_all.ensures ∙ ap (λ ks. without_keys ks old) c.as_slice-3.ensures)))
    (c.packing_settles.ensures.packed family most s.key wanted packed old c.own_keys.ensures
    given.fits.0 given.fits.1 given.packing))
    c.put_all.ensures
