use Rattle.std.proofs.Common.{◌≡◌, ◌||◌, map, filter, sym, ap, ◌∙◌, Bor}
use Rattle.std.specs.List.{filter_map}
use Rattle.std.specs.FinMap as finite
use Rattle.std.proofs.lemmas.Result.{IfOk-weaker}
use Rattle.kp_base.specs.declared.key.ObjectKey.{ObjectKey}
use Rattle.kp_types.specs.declared.service.Service.{Service}
use Rattle.kp_pack_laws.proofs.Shuffles.{all_of, all_pass}
use Rattle.kp_store.specs.Touched.{is_touched}
use Rattle.kp_controller.proofs.TouchedServices.{found_among}
use Rattle.kp_controller.proofs.services.services_touched.Goals as goal

pub returns-then-touched : goal.returns-then-touched
returns-then-touched c =
    let t = c.args.touched.now in
    let all = finite.values c.args.objects.now.services in
    IfOk-weaker c.all_services.result
    (λ ss. map (λ (s : Bor Service). s.now) ss.items ≡ all)
    (λ ss. map (λ (s : Bor Service). s.now) ss.items
    ≡ filter (λ (s : Service). is_touched t s.key) all) (λ ss found.
    found
    ∙ sym (all_pass (λ (s : Service). is_touched t s.key) all
    (all_of _ (λ s. ap (λ b. b || finite.contains_key t.keys s.key) c.if-touched.true) all)))
    c.all_services.ensures.found

pub returns : goal.returns
returns c =
    let t = c.args.touched.now in
    let services = c.args.objects.now.services in
    IfOk-weaker c.services_at.result
    (λ ss. map (λ (s : Bor Service). s.now) ss.items
    ≡ filter_map (finite.get services)
    (map (λ (k : Bor ObjectKey). k.now) c.as_slice.result.now))
    (λ ss. map (λ (s : Bor Service). s.now) ss.items
    ≡ filter (λ (s : Service). is_touched t s.key) (finite.values services)) (λ ss found.
    found
    ∙ ap (filter_map (finite.get services))
    (ap (map (λ (k : Bor ObjectKey). k.now)) c.as_slice.ensures.value ∙ c.in_ok-keys.ensures)
    ∙ found_among (λ (s : Service). s.key) services c.requires.own_keys.services t.keys
    ∙ (λ i. filter (λ (s : Service). sym c.if-touched.false i || finite.contains_key t.keys s.key)
    (finite.values services)))
    c.services_at.ensures
