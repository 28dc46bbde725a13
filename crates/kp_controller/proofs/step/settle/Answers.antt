use Rattle.std.proofs.Common.{Bor, map, ap, sym, subst, ◌∙◌}
use Rattle.std.proofs.lemmas.Result.{on_ok_weaker}
use Rattle.kp_types.specs.Setting.{both_families}
use Rattle.kp_types.specs.declared.service.Service.{Service}
use Rattle.kp_settle_laws.specs.Settled.{AreLeftBy, AreSettledBut, none}
use Rattle.kp_store.specs.Touched.{is_touched}
use Rattle.kp_controller.proofs.AllSettled.{settled_without, sync_is, sync_settles}
use Rattle.kp_controller.proofs.step.settle.Goals as goal

pub returns-clause-ok : goal.returns-clause-ok
returns-clause-ok c =
    let o = c.args.objects.now in
    let own = c.requires.own_keys in
    let touched = is_touched c.args.touched.now in
    let most = c.args.config.now.max_per_slice in
    let old = c.args.slices.now in
    let m = c.remove_touched.new.slices in
    let removed = c.in_ok-remove_touched.ensures in
    let are = ap (map (λ (s : Bor Service). s.now)) c.as_slice.ensures.value
    ∙ c.in_ok-few.ensures in
    let but = subst (AreSettledBut touched most o) (sym removed)
    (settled_without o own touched c.packing_settles.ensures.leftovers most old c.own_keys.ensures
    c.requires.settled) in
    on_ok_weaker c.pack_services.result (λ packed.
    sync_is o own touched most old m c.pack_services.new.slices _ c.args.config.now.slice_from
    c.own_keys-2.ensures removed are but packed c.touched_are_enough.ensures.touched)
    c.pack_services.ensures.packed

pub returns-clause-settled : goal.returns-clause-settled
returns-clause-settled c =
    let o = c.args.objects.now in
    let own = c.requires.own_keys in
    let touched = is_touched c.args.touched.now in
    let most = c.args.config.now.max_per_slice in
    let old = c.args.slices.now in
    let m = c.remove_touched.new.slices in
    let new = c.pack_services.new.slices in
    let removed = c.in_ok-remove_touched.ensures in
    let are = ap (map (λ (s : Bor Service). s.now)) c.as_slice.ensures.value
    ∙ c.in_ok-few.ensures in
    let but = subst (AreSettledBut touched most o) (sym removed)
    (settled_without o own touched c.packing_settles.ensures.leftovers most old c.own_keys.ensures
    c.requires.settled) in
    on_ok_weaker c.pack_services.result (sync_settles o own touched most m new _ are but)
    c.pack_services.ensures.settles

pub returns-clause-left : goal.returns-clause-left
returns-clause-left c =
    let o = c.args.objects.now in
    let own = c.requires.own_keys in
    let touched = is_touched c.args.touched.now in
    let most = c.args.config.now.max_per_slice in
    let old = c.args.slices.now in
    let m = c.remove_touched.new.slices in
    let removed = c.in_ok-remove_touched.ensures in
    let are = ap (map (λ (s : Bor Service). s.now)) c.as_slice.ensures.value
    ∙ c.in_ok-few.ensures in
    let but = subst (AreSettledBut touched most o) (sym removed)
    (settled_without o own touched c.packing_settles.ensures.leftovers most old c.own_keys.ensures
    c.requires.settled) in
    on_ok_weaker c.pack_services.result (λ packed.
    subst (AreLeftBy none o)
    (sym (sync_is o own touched most old m c.pack_services.new.slices _
    c.args.config.now.slice_from c.own_keys-2.ensures removed are but packed
    c.touched_are_enough.ensures.touched))
    (c.touched_are_enough.ensures.left both_families most o old c.args.config.now.slice_from own
    c.own_keys.ensures))
    c.pack_services.ensures.packed
