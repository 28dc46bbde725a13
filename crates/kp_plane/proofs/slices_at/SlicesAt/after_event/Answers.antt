use Rattle.std.proofs.Common.{take, refl, sym, subst}
use Rattle.kp_object_defs.specs.OwnKeys.{AreUnderOwnKeys}
use Rattle.kp_plane.proofs.Controlled.{objects_controlled, slices_controlled}
use Rattle.kp_plane.proofs.SlicesAtPlaces.{fed_one}
use Rattle.kp_plane.proofs.slices_at.SlicesAt.after_event.Goals as goal

pub returns : goal.returns
returns c =
    let config = c.args.config.now in
    let before = c.args.self.now in
    let event = c.index-events-at.result in
    let o = before.place.objects in
    let p = c.apply_touching.new.self in
    let m = before.slices in
    let n = c.apply_touching-2.new.self in
    let t = before.touched in
    let u = c.apply_touching.new.touched in
    let v = c.apply_touching-2.new.touched in
    let laws = c.controlled_between_syncs.ensures in
    let own = subst AreUnderOwnKeys (sym c.requires.place.objects)
    (c.own_keys.ensures.after_events (take before.place.at c.args.events.now)) in
    let by_objects = objects_controlled laws.more config event t u laws.objects o p m _ own
    c.in_ok-apply_touching.ensures.changed c.in_ok-apply_touching.ensures.ok
    c.in_ok-apply_touching.ensures.adds c.requires.controlled in
    fed_one config c.args.events.now c.slices_now.ensures.after_event before _ event
    c.requires.place c.requires.some c.index-events-at.is c.in_ok-apply_touching.ensures.ok refl
    c.in_ok-apply_touching-2.ensures.ok refl refl
    (slices_controlled laws.more config event u v laws.slices p m n c.own_keys-2.ensures
    c.in_ok-apply_touching-2.ensures.ok c.in_ok-apply_touching-2.ensures.adds by_objects)
