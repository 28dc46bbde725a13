use Rattle.std.proofs.Common.{◌≡◌, [], ◌∷◌, filter, flat_map, length, ap, ◌∙◌, rules}
use Rattle.std.proofs.lemmas.Iterator.{YieldsList-from_slice}
use Rattle.std.proofs.lemmas.Iterator.Consumers.{count_from_yields_List, YieldsList-from_filter}
use Rattle.kp_types.specs.Setting.{config_for}
use Rattle.kp_door_defs.specs.Doors.{Door, doors_of}
use Rattle.kp_changes.specs.Beside.{bare_infos_at}
use Rattle.kp_changes.specs.Neighbours.{destination_of, is_same, neighbours_at}
use Rattle.kp_changes.proofs.SameCrowd.{own_doors}
use Rattle.kp_changes.proofs.beside.own_doors.Goals as goal

pub returns : goal.returns
returns c =
    let family = c.args.family in
    let a = c.args.after.now.synced in
    let d = c.args.door.now in
    let config = config_for family a.config in
    let key : c.door.inside.info.now.key ≡ d.info.key =
    ap (λ (e : Door). e.info.key) c.door.view_is in
    count_from_yields_List c.filter.result _ c.count.ensures.ran
    (YieldsList-from_filter _ (is_same d) (YieldsList-from_slice c.as_slice.result.now cc)
    c.filter.ensures.closure (λ x r q k. search rules))
    ∙ ap length (ap (filter (is_same d)) (c.as_slice.ensures ∙ c.in_ok-there.ensures
    ∙ (λ i. neighbours_at (destination_of family d)
    (doors_of (flat_map (bare_infos_at family config a.objects) (key i ∷ [])))))
    ∙ own_doors family config a.objects c.requires.own_keys d)
