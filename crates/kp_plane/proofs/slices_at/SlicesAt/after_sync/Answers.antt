use Rattle.std.proofs.Common.{ap, sym, subst, take, ◌∙◌}
use Rattle.kp_object_defs.specs.OwnKeys.{AreUnderOwnKeys}
use Rattle.kp_object_defs.specs.SlicesNow.{controller_step}
use Rattle.kp_settle_laws.specs.Settled.{IsControlledBut}
use Rattle.kp_store.specs.Touched.{is_touched}
use Rattle.kp_types.specs.Setting.{both_families}
use Rattle.kp_plane.proofs.SlicesAtPlaces.{next_sync}
use Rattle.kp_plane.proofs.slices_at.SlicesAt.after_sync.Goals as goal

pub control-requires-clause-own_keys : goal.control-requires-clause-own_keys
control-requires-clause-own_keys c =
    let fed = c.in_ok-fed.fed in
    subst AreUnderOwnKeys (sym c.in_ok-fed.ensures.place.objects)
    (c.own_keys.ensures.after_events (take fed.place.at c.args.events.now))

pub control-requires-clause-controlled : goal.control-requires-clause-controlled
control-requires-clause-controlled c =
    let fed = c.in_ok-fed.fed in
    subst (IsControlledBut (is_touched fed.touched) c.args.config.now fed.place.objects)
    (sym c.replace-held.ensures.value) c.in_ok-fed.ensures.controlled

pub returns-clause-at : goal.returns-clause-at
returns-clause-at c =
    let fed = c.in_ok-fed.fed in
    next_sync c.slices_now.ensures.after_sync c.controlled_between_syncs.ensures.more
    c.args.config.now c.args.events.now c.args.counts.now c.args.self c.requires.at c.requires.some
    c.requires.within fed c.in_ok-fed.ensures c.in_ok-slices.slices c.new-2.result
    (c.in_ok-slices.ensures.ok
    ∙ ap (controller_step both_families c.args.config.now fed.place.objects)
    c.replace-held.ensures.value)
    c.in_ok-slices.ensures.controlled
