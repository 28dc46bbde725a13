use Rattle.std.proofs.Common.{ℕ, List, map, filter_map, flat_map, Option, Ok, sym, ap, ◌∙◌, rules}
use Rattle.std.proofs.lemmas.Iterator.{items_from_collect}
use Rattle.std.proofs.lemmas.Iterator.Consumers.{YieldsList-at, YieldsList-from_filter_map, YieldsList-from_rest}
use Rattle.kp_base.specs.Keys.{port_key_cmp}
use Rattle.kp_base.specs.declared.key.PortKey.{PortKey}
use Rattle.kp_types.specs.Setting.{config_for}
use Rattle.kp_object_defs.specs.Objects.{zone_of}
use Rattle.kp_object_defs.specs.Order.{by_key, values_of}
use Rattle.kp_object_defs.specs.PortInfo.{PortInfo, info_of, name_of_port}
use Rattle.kp_known_ports.specs.Known.{parts_of}
use Rattle.kp_known_ports.proofs.KnownPorts.{known_there}
use Rattle.kp_known_ports.proofs.TakingPart.{found_by_names, parts_taking}
use Rattle.kp_object_laws.proofs.PortByKey.{infos_by_names}
use Rattle.kp_known_ports.proofs.infos.infos_of_services.Goals as goal

pub returns-clause-by_name : goal.returns-clause-by_name
returns-clause-by_name g c =
    let family = c.args.family in
    let config = config_for family c.args.config.now in
    let o = c.args.objects.now in
    let services = map (λ s. s.now) c.args.services.now in
    let ports = flat_map (parts_of family config o) services in
    let values = map (λ e. e.1) c.in_ok-known.known.entries in
    items_from_collect {E = ℕ} (Ok c.in_ok-collect.field-0) c.in_ok-collect.ensures.ran
    (YieldsList-from_filter_map _ (λ (i : Option PortInfo). i) (YieldsList-at c.filter_map.ensures.source (YieldsList-from_rest {shows = λ x. x} values c.into_values.ensures.rest)) c.filter_map.ensures.closure (λ x r q k. search rules))
    ∙ ap (λ (es : List (PortKey × Option PortInfo)). filter_map (λ (i : Option PortInfo). i) (map (λ e. e.1) es)) c.in_ok-known.ensures.known
    ∙ known_there (info_of family config.node (zone_of o config.node)) (by_key port_key_cmp name_of_port ports)
    ∙ ap (λ ps. filter_map (info_of family config.node (zone_of o config.node)) (values_of (by_key port_key_cmp name_of_port ps))) (parts_taking family config o services)
    ∙ found_by_names family config o services c.requires.stored

pub returns-clause-exact : goal.returns-clause-exact
returns-clause-exact g c =
    let family = c.args.family in
    returns-clause-by_name g c
    ∙ sym (infos_by_names family (config_for family c.args.config.now) c.args.objects.now (map (λ s. s.now) c.args.services.now) c.requires.stored)
