use Rattle.std.proofs.Common.{cond, take, map, filter, refl, sym, ap, subst, ◌∙◌, Bor}
use Rattle.std.proofs.lemmas.List.{take_all}
use Rattle.kp_lemmas.proofs.Members.{in_map}
use Rattle.kp_types.specs.declared.service.Service.{Service}
use Rattle.kp_object_defs.specs.Desired.{has_selector}
use Rattle.kp_types.specs.Setting.{both_families}
use Rattle.kp_settle_laws.specs.Settled.{AreSettledBut, after_each, without, without_each}
use Rattle.kp_controller.proofs.AllSettled.{settle_more}
use Rattle.kp_controller.proofs.OneMore.{one_more}
use Rattle.kp_controller.proofs.step.pack_services.Goals.{then-has_selector+in_ok-pack_service, else-has_selector}
use Rattle.kp_controller.proofs.step.pack_services.Goals as goal

pub loop-service-preserved : goal.loop-service-preserved
loop-service-preserved c =
    let item = c.service-item.result in
    let s = item.now in
    let i = c.loop-service.service-index in
    let all = c.args.services.now in
    let before = c.loop-service.slices in
    let most = c.args.config.now.max_per_slice in
    let o = c.args.objects.now in (
      one_more (λ t. t.now) all i item c.loop-service-test.true c.service-item.is
          (after_each both_families most o) has_selector c.args.slices.now before
          c.if-has_selector.slices c.loop-service.invariant.0
          (elim c.if-has_selector.branch [
            | then-has_selector+in_ok-pack_service w ↦
                w.slices-is ∙ w.in_ok-pack_service.ensures.packed
                ∙ ap (λ t. cond t (after_each both_families most o before s) before)
                w.if-has_selector.ensures
            | else-has_selector w ↦
                w.slices-is
                ∙ ap (λ t. cond t (after_each both_families most o before s) before)
                w.if-has_selector.ensures
          ]),
      λ stored picked but.
          let so_far = c.loop-service.invariant.1 stored picked but in
          let unpacked = without_each (filter has_selector (map (λ t. t.now) (take i all))) picked in
          subst (λ p. AreSettledBut p most o c.if-has_selector.slices)
          (one_more (λ t. t.now) all i item c.loop-service-test.true c.service-item.is
          (λ p t. without t.key p) has_selector picked unpacked
          (cond (has_selector s) (without s.key unpacked) unpacked) refl refl)
          (elim c.if-has_selector.branch [
            | then-has_selector+in_ok-pack_service w ↦
                subst (λ t. AreSettledBut (cond t (without s.key unpacked) unpacked) most o
                c.if-has_selector.slices) w.if-has_selector.ensures
                (subst (λ n. AreSettledBut (without s.key unpacked) most o n) (sym w.slices-is)
                (settle_more c.packing_settles.ensures.one_more o unpacked most before _ s
                c.args.config.now.slice_from c.own_keys.ensures
                (stored s (in_map (λ (t : Bor Service). t.now) item all
                (i, c.loop-service-test.true, sym c.service-item.is)))
                w.in_ok-pack_service.ensures.packed w.in_ok-pack_service.ensures.settled so_far))
            | else-has_selector w ↦
                subst (λ t. AreSettledBut (cond t (without s.key unpacked) unpacked) most o
                c.if-has_selector.slices) w.if-has_selector.ensures
                (subst (λ n. AreSettledBut unpacked most o n) (sym w.slices-is) so_far)
          ]),
    )

pub returns-clause-settles : goal.returns-clause-settles
returns-clause-settles c stored picked but =
    subst (λ ss. AreSettledBut
    (without_each (filter has_selector (map (λ (s : Bor Service). s.now) ss)) picked)
    c.args.config.now.max_per_slice c.args.objects.now c.loop-service.slices)
    (take_all c.loop-service.service-index c.args.services.now c.loop-service-test.false)
    (c.loop-service.invariant.1 stored picked but)
