use Rattle.std.proofs.Common.{◌≡◌, filter_map, flat_map, map, sym, ap, subst, ◌∙◌}
use Rattle.std.proofs.lemmas.Result.{IfOk-weaker}
use Rattle.kp_base.specs.Keys.{port_key_cmp}
use Rattle.kp_types.specs.Setting.{config_for}
use Rattle.kp_object_defs.specs.Order.{distinct_in_order}
use Rattle.kp_object_defs.specs.PortByKey.{info_at, port_keys_of}
use Rattle.kp_object_defs.specs.PortInfo.{port_infos}
use Rattle.kp_store.specs.Destinations.{answers}
use Rattle.kp_known_ports.specs.Known.{AreStored}
use Rattle.kp_known_ports.proofs.StoredServices.{some_stored}
use Rattle.kp_decide.specs.Enough.{AreEnough}
use Rattle.kp_decide.proofs.Enough.{enough}
use Rattle.kp_decide.proofs.made.infos_at.Goals as goal

pub infos_uncounted-requires-clause-stored : goal.infos_uncounted-requires-clause-stored
infos_uncounted-requires-clause-stored c =
    let o = c.args.objects.now in
    let packet = c.args.packet.now in
    let found = ap (map (λ s. s.now)) c.as_slice.ensures.value ∙ c.in_ok-services.ensures.found in
    subst (AreStored o) (sym found) (some_stored o c.services_at.ensures.own_keys (answers packet.proto packet.target packet.port))

pub returns : goal.returns
returns c =
    let o = c.args.objects.now in
    let packet = c.args.packet.now in
    let family = c.args.family in
    let config = config_for family c.args.config.now in
    let all = port_infos family config o in
    let services = c.as_slice.result.now in
    let found = ap (map (λ s. s.now)) c.as_slice.ensures.value ∙ c.in_ok-services.ensures.found in
    IfOk-weaker c.infos_uncounted.result
    (λ is. is.items ≡ filter_map (info_at family config o) (distinct_in_order port_key_cmp (flat_map port_keys_of (map (λ s. s.now) services))))
    (λ is. AreEnough config packet is.items all)
    (λ is same.
    subst (λ infos. AreEnough config packet infos all)
    (sym (same ∙ ap (λ ss. filter_map (info_at family config o) (distinct_in_order port_key_cmp (flat_map port_keys_of ss))) found))
    (enough family config o c.services_at.ensures.own_keys packet))
    c.infos_uncounted.ensures
