use Rattle.std.proofs.Common.{◌≡◌, filter_map, map, sym, ap, ◌∙◌}
use Rattle.std.proofs.lemmas.Result.{IfOk-weaker}
use Rattle.kp_object_defs.specs.Desired.{desired_endpoints_of, desired_of}
use Rattle.kp_object_defs.specs.Objects.{zone_of}
use Rattle.kp_store.proofs.OtherFamily.{none_desired}
use Rattle.kp_store.proofs.wanted.wanted_of.Goals as goal

pub returns-then-not-has_family : goal.returns-then-not-has_family
returns-then-not-has_family c =
    c.new.ensures
    ∙ sym (none_desired c.args.family c.args.objects.now c.args.service.now
    (sym c.has_family.ensures ∙ c.if-not-has_family.true))

pub returns : goal.returns
returns c =
    let o = c.args.objects.now in
    let s = c.args.service.now in
    IfOk-weaker c.wanted_of_pods.result
    (λ ws. ws ≡ filter_map (desired_of c.args.family (zone_of o) s) (map (λ p. p.now) c.as_slice.result.now)) (λ ws. ws ≡ desired_endpoints_of c.args.family o s)
    (λ ws same. same ∙ ap (filter_map (desired_of c.args.family (zone_of o) s)) (ap (map (λ p. p.now)) c.as_slice.ensures.value ∙ c.in_ok-pods.ensures))
    c.wanted_of_pods.ensures
