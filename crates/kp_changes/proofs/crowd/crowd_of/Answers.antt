use Rattle.std.proofs.Common.{◌≡◌, ap, map, flat_map, ◌∙◌}
use Rattle.std.proofs.lemmas.Result.{IfOk-weaker}
use Rattle.kp_base.specs.Keys.{port_key_cmp}
use Rattle.kp_types.specs.Setting.{config_for}
use Rattle.kp_object_defs.specs.Order.{distinct_in_order}
use Rattle.kp_door_defs.specs.Doors.{doors_of}
use Rattle.kp_changes.specs.Beside.{bare_infos_at, names_at}
use Rattle.kp_changes.specs.Neighbours.{destination_of, neighbours_at}
use Rattle.kp_changes.proofs.SameCrowd.{crowd}
use Rattle.kp_changes.proofs.crowd.crowd_of.Goals as goal

pub returns : goal.returns
returns c =
    let family = c.args.family in
    let a = c.args.after.now.synced in
    let d = c.args.door.now in
    let config = config_for family a.config in
    let names : map (λ k. k.now) c.as_slice.result.now
    ≡ distinct_in_order port_key_cmp (names_at a.objects d) =
    ap (map (λ k. k.now)) c.as_slice.ensures.value ∙ c.in_ok-distinct.ensures
    ∙ ap (distinct_in_order port_key_cmp) c.requires.names in
    IfOk-weaker c.doors_there.result _ _
    (λ found is. is
    ∙ ap (λ ks. neighbours_at (destination_of family d)
    (doors_of (flat_map (bare_infos_at family config a.objects) ks))) names
    ∙ crowd family config a.objects c.requires.own_keys d)
    c.doors_there.ensures
