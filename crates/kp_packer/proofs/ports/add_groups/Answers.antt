use Rattle.std.proofs.Common.{◌≡◌, ◌+◌, ◌∙◌, ◌++◌, ◌∷◌, [], cond, List, map, take, ap, sym}
use Rattle.std.specs.List.{list_any}
use Rattle.std.proofs.lemmas.List.{take_more, map-append}
use Rattle.kp_types.specs.declared.slice.SlicePort.{SlicePort}
use Rattle.kp_types.specs.declared.slice.Wanted.{Wanted}
use Rattle.kp_object_defs.specs.Order.{first_places}
use Rattle.kp_object_defs.specs.Packing as spec
use Rattle.kp_lemmas.proofs.FirstPlaces.{first_places-push}
use Rattle.kp_packer.proofs.Grouping.{ports_alike, seen_insert}
use Rattle.kp_packer.proofs.ports.add_groups.Goals as goal

pub loop-endpoint-preserved : goal.loop-endpoint-preserved
loop-endpoint-preserved c =
    let wanted = c.args.wanted.now in
    let i = c.loop-endpoint.endpoint-index in
    let x = c.endpoint-item.result in
    let v = c.in_ok-sorted_ports.field-0 in
    let ports : Wanted → List SlicePort = λ w. spec.sorted_ports w.ports in
    let sorted : v.items ≡ ports x = c.in_ok-sorted_ports.ensures in
    let next : map ports (take (i + 1) wanted) ≡ map ports (take i wanted) ++ ports x ∷ [] =
    ap (map ports) (take_more wanted i x c.loop-endpoint-test.true ∙ ap (λ y. take i wanted ++ y ∷ []) (sym c.endpoint-item.is)) ∙ map-append ports (take i wanted) (x ∷ []) in
    ap (map (λ g. g.items)) c.in_ok-insert.ensures.keys
    ∙ seen_insert (λ g. g.items) spec.same_ports c.loop-endpoint.groups.keys v
    ∙ (λ j. cond (list_any (spec.same_ports (sorted j)) (c.loop-endpoint.invariant j)) (c.loop-endpoint.invariant j) (c.loop-endpoint.invariant j ++ sorted j ∷ []))
    ∙ sym (ap (first_places spec.same_ports) next ∙ first_places-push spec.same_ports ports_alike (map ports (take i wanted)) (ports x))
